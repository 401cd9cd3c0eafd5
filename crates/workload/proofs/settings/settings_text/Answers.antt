use Rattle.std.proofs.Common.{◌++◌, ◌∙◌, ap, decimal}
use Rattle.workload.specs.Made.{birth_field, birth_pass, given_field, surname_field, surname_pass, up_to_seed}
use Rattle.workload.proofs.Lemmas.{seven_pieces}
use Rattle.workload.proofs.settings.settings_text.Goals as goal

pub returns : goal.returns
returns c =
    c.of.ensures
    ∙ seven_pieces up_to_seed (decimal c.args.rows) surname_field given_field birth_field surname_pass birth_pass c.extend_from_slice.new.self.items c.push_number.new.line.items
    c.extend_from_slice-2.new.self.items c.extend_from_slice-3.new.self.items c.extend_from_slice-4.new.self.items c.extend_from_slice-5.new.self.items c.extend_from_slice-6.new.self.items
    (c.in_ok-extend_from_slice.ensures.items ∙ ap (λ xs. xs ++ up_to_seed) c.new-text.ensures.items) (c.in_ok-push_number.ensures ∙ ap (λ n. c.extend_from_slice.new.self.items ++ decimal n) c.from.ensures) c.in_ok-extend_from_slice-2.ensures.items c.in_ok-extend_from_slice-3.ensures.items
    c.in_ok-extend_from_slice-4.ensures.items c.in_ok-extend_from_slice-5.ensures.items c.in_ok-extend_from_slice-6.ensures.items
