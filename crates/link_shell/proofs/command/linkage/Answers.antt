use Rattle.std.proofs.Common.{get_or, IsUtf8, string_bytes}
use Rattle.std.proofs.lemmas.List.Elements.{All-map}
use Rattle.std.proofs.lemmas.Str.{IsUtf8-string_bytes}
use Rattle.link_shell.proofs.AfterRunFacts.{proved_by_run, yes_where_proved}
use Rattle.link_shell.proofs.HeadlineFacts.{headline}
use Rattle.link_shell.proofs.KeptVerdictFacts.{no_verdict_lost}
use Rattle.link_shell.proofs.MeaningFacts.{rows_say_yes, yes_means}
use Rattle.link_shell.proofs.command.linkage.Goals as goal

pub returns-clause-performed : goal.returns-clause-performed
returns-clause-performed g c = (c.perform-answer.result, c.perform-answer.ensures.performed, c.report-status.ensures)

pub returns-clause-headline : goal.returns-clause-headline
returns-clause-headline g c = headline _ _ _ _ c.perform-answer.result _ c.perform-answer.ensures.performed c.report-status.ensures

pub returns-clause-proved_by_run : goal.returns-clause-proved_by_run
returns-clause-proved_by_run g c = proved_by_run c.run_is_verified.ensures _ _ _ _ c.perform-answer.result _ c.perform-answer.ensures.performed c.report-status.ensures

pub returns-clause-yes_where_proved : goal.returns-clause-yes_where_proved
returns-clause-yes_where_proved g c = yes_where_proved _ _ _ _ c.perform-answer.result _ c.perform-answer.ensures.performed c.report-status.ensures

pub returns-clause-no_verdict_lost : goal.returns-clause-no_verdict_lost
returns-clause-no_verdict_lost g c =
    no_verdict_lost c.no_verdict_is_lost.ensures.reviewed c.no_verdict_is_lost.ensures.migrated _ _ _ _ c.perform-answer.result _
    (All-map IsUtf8 string_bytes c.args.words.now (λ k d within. IsUtf8-string_bytes (get_or c.args.words.now k d))) c.perform-answer.ensures.performed c.report-status.ensures

pub returns-clause-always : goal.returns-clause-always
returns-clause-always g c = record { limits = c.limits_are_these.ensures; filled_rule = c.commands_go_by_filled_rule.ensures }

pub returns-clause-yes_means : goal.returns-clause-yes_means
returns-clause-yes_means g c = yes_means c.verify_tells.ensures.told _ _ _ _ c.perform-answer.result _ c.perform-answer.ensures.performed c.report-status.ensures

pub returns-clause-rows_say_yes : goal.returns-clause-rows_say_yes
returns-clause-rows_say_yes g c = rows_say_yes c.verify_tells.ensures.proved _ _ _ _ c.perform-answer.result _ c.perform-answer.ensures.performed c.report-status.ensures
