pub mod Soundex
pub mod Carry
pub mod Alphabet
pub mod Nysiis
pub mod Walks
