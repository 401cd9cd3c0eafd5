use Rattle.std.proofs.Common.{◌≡◌, ◌∷◌, ◌==◌, ℕ, List, [], Bool, false, length, subst, Result, codes}
use Rattle.file_reader.specs.Words.{records_in, header_has}
use Rattle.link_base.specs.Words.{IsAnswer, Record}
use Rattle.link_base.specs.declared.fault.Fault.{Fault}
use Rattle.review_journal.specs.declared.entry.Entry.{Entry}
use Rattle.review_journal.specs.Reading.{journal_in, journal_under}
use Rattle.review_journal.proofs.reading.read_journal.Goals as goal

-- a file of some bytes is of the version that its header says
by_header : (a b : List Record) (bytes : List ℕ) (second : Bool) (r : Result (List Entry) Fault) → false ≡ (length bytes == 0)
    → second ≡ header_has (codes "step") (records_in 44 bytes) → IsAnswer (journal_under second a b (records_in 44 bytes)) r → IsAnswer (journal_in a b bytes) r
by_header a b [] second r some has h = cc
by_header a b (byte ∷ bytes) second r some has h =
    subst (λ (t : Bool). IsAnswer (journal_under t a b (records_in 44 (byte ∷ bytes))) r) has h

pub returns-clause-answer : goal.returns-clause-answer
returns-clause-answer c =
    by_header c.args.a.now c.args.b.now c.args.bytes.now c.in_ok-second.second c.read_version.result c.if-is_empty.ensures c.in_ok-second.ensures c.read_version.ensures.answer
