-- The statuses and lines of the refusals of commands (`Refusal::status`, `write_refusal`).
use Rattle.std.specs.Prelude.{ℕ, List, ◌++◌, codes}
use Rattle.link_base.specs.Words.{fault_status, fault_text}
use Rattle.link_outside.specs.declared.refusal.Refusal.{Refusal}
use Rattle.link_outside.specs.declared.refusal.Refusal.TheVariants as refusal

-- the exit status of a refusal
abbrev pub refusal_status : Refusal → ℕ
refusal_status refusal.Usage = 2
refusal_status (refusal.Store name) = 6
refusal_status refusal.Output = 7
refusal_status (refusal.Fault f) = fault_status f

-- the text of a refusal
abbrev pub refusal_text : Refusal → List ℕ
refusal_text refusal.Usage = codes "usage"
refusal_text (refusal.Store name) = codes "store: " ++ name
refusal_text refusal.Output = codes "output"
refusal_text (refusal.Fault f) = fault_text f

-- the line of a refusal
abbrev pub refusal_line : Refusal → List ℕ
refusal_line r = codes "linkage: " ++ refusal_text r ++ codes "\n"
