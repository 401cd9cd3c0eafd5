use Rattle.std.proofs.Common.{[], ap, Result}
use Rattle.toml.specs.View.{table_view}
use Rattle.link_plan.specs.declared.plan.Plan.{Plan}
use Rattle.settings_readers.specs.declared.fault.KeyFault.{KeyFault}
use Rattle.settings_readers.specs.KeptLaws.{kept}
use Rattle.settings.specs.Settings.{of_keys, plan_of}
use Rattle.settings.proofs.Ranges.{is_settings_fault, never_not_toml, of_keys_refuse, IsReadPlan, plan_is}
use Rattle.settings.proofs.top.plan_of_table.Goals as goal

pub returns-in-Ok-clause-gives : goal.returns-in-Ok-clause-gives
returns-in-Ok-clause-gives c = ap (λ (r : Result Plan KeyFault). of_keys r) c.in-Ok.ensures.gives

pub returns-in-Ok-clause-ranges : goal.returns-in-Ok-clause-ranges
returns-in-Ok-clause-ranges c =
    (kept IsReadPlan (plan_of (table_view c.args.table.now) []) _ (plan_is (table_view c.args.table.now) []) c.in-Ok.ensures.gives).ranges c.pairs.ensures.rising c.pairs-in-Ok.ensures.rising

pub returns-in-Err-clause-gives : goal.returns-in-Err-clause-gives
returns-in-Err-clause-gives c = rw c.into_fault.ensures (of_keys_refuse _ _ c.in-Err.ensures.gives)

pub returns-in-Err-clause-kind : goal.returns-in-Err-clause-kind
returns-in-Err-clause-kind c = rw c.into_fault.ensures (is_settings_fault _)

pub returns-in-Err-clause-no_other : goal.returns-in-Err-clause-no_other
returns-in-Err-clause-no_other c = rw c.into_fault.ensures (never_not_toml c.in-Err.fault)
