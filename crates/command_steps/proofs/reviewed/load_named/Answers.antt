use Rattle.std.proofs.Common.{◌≡◌, ℕ, List, Ok, subst}
use Rattle.link_base.specs.Words.{Refuses}
use Rattle.link_core.specs.Review.{journal_in_files}
use Rattle.command_scripts.specs.Words.{takes_go, takes_ok, takes_refused, takes_stop}
use Rattle.command_steps.proofs.reviewed.load_named.Goals as goal

pub returns-in_err-bytes-clause-takes : goal.returns-in_err-bytes-clause-takes
returns-in_err-bytes-clause-takes g c = takes_stop _ _ c.in_err-bytes.ensures c.from_residual.ensures.1

pub returns-in_err-journal-clause-takes : goal.returns-in_err-journal-clause-takes
returns-in_err-journal-clause-takes g c =
    let P : List ℕ → Type 0 = λ bytes. Refuses (journal_in_files c.args.files.now.files bytes) c.in_err-journal.field-0.0 in
    takes_go _ _ c.in_ok-bytes.ensures (takes_refused _ _ (subst P c.bytes.ensures c.in_err-journal.ensures.answer) c.from_residual-in_err-journal.ensures.1)

pub returns-clause-takes : goal.returns-clause-takes
returns-clause-takes g c =
    let P : List ℕ → Type 0 = λ bytes. journal_in_files c.args.files.now.files bytes ≡ Ok c.in_ok-journal.journal in
    takes_go _ _ c.in_ok-bytes.ensures (takes_ok _ (subst P c.bytes.ensures c.in_ok-journal.ensures.answer))
