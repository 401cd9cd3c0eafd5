pub mod HostFile
