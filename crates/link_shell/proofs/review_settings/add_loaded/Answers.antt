use Rattle.std.proofs.Common.{◌≡◌, List, ℕ, ℤ, rules, subst, Result, Ok, w32, FitsSigned}
use Rattle.std.proofs.lemmas.Int.{to_z-of_z}
use Rattle.link_base.specs.Words.{Refuses}
use Rattle.link_base.specs.declared.fault.Fault.{Fault}
use Rattle.link_core.specs.Review.{reviewed_lines_of}
use Rattle.command_scripts.specs.Words.{takes_go, takes_ok, takes_refused, takes_stop}
use Rattle.link_shell.proofs.review_settings.add_loaded.Goals as goal

-- the text of the day and of the bytes that are handed on
as_handed : (f : ℤ → List ℕ → Result (List ℕ) Fault) (P : Result (List ℕ) Fault → Type 0) (date date2 : ℤ) (bytes bytes2 : List ℕ) → date2 ≡ date → bytes2 ≡ bytes → P (f date2 bytes2) → P (f date bytes)
as_handed f P date date2 bytes bytes2 of_date of_bytes h = subst (λ x. P (f date x)) of_bytes (subst (λ z. P (f z bytes2)) of_date h)

pub returns-in_err-verdicts : goal.returns-in_err-verdicts
returns-in_err-verdicts g c = takes_stop _ _ c.in_err-verdicts.ensures c.from_residual.ensures.1

pub returns-in_err-text : goal.returns-in_err-text
returns-in_err-text g c =
    let w = c.args.request.now in let r = c.args.reviewed.now in
    let f : Fault = c.in_err-text.field-0.0 in
    let lines : ℤ → List ℕ → Result (List ℕ) Fault = λ date bytes. reviewed_lines_of c.args.double date w.reviewer.now r.files.files r.decided.possible r.journal bytes in
    let fits : FitsSigned w32 w.date = search rules in
    let refused = as_handed lines (λ e. Refuses e f) w.date _ c.in_ok-verdicts.verdicts c.bytes.result.now (to_z-of_z w32 w.date fits) c.bytes.ensures c.in_err-text.ensures.answer in
    takes_go _ _ c.in_ok-verdicts.ensures (takes_refused _ _ refused c.from_residual-in_err-text.ensures.1)

pub returns : goal.returns
returns g c =
    let w = c.args.request.now in let r = c.args.reviewed.now in
    let lines : ℤ → List ℕ → Result (List ℕ) Fault = λ date bytes. reviewed_lines_of c.args.double date w.reviewer.now r.files.files r.decided.possible r.journal bytes in
    let fits : FitsSigned w32 w.date = search rules in
    let answer = as_handed lines (λ e. e ≡ Ok c.in_ok-text.text) w.date _ c.in_ok-verdicts.verdicts c.bytes.result.now (to_z-of_z w32 w.date fits) c.bytes.ensures c.in_ok-text.ensures.answer in
    takes_go _ _ c.in_ok-verdicts.ensures (takes_ok _ answer)
