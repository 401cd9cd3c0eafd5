use Rattle.std.proofs.Common.{refl}
use Rattle.host_outside.proofs.host_files.HostFilesStore.TheImpl.Goals as goal

-- nothing is told of what a name holds
pub load-tells : goal.load-tells
load-tells g c = record { within = c.ensures.within; content = λ told. absurd told; unchanged = refl; cause = c.ensures.cause }

pub put-tells : goal.put-tells
put-tells g c = record { content = λ told. absurd told; cause = c.ensures.cause }
