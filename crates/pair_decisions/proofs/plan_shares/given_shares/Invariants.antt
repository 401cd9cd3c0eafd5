use Rattle.std.proofs.Common.{◌≡◌, take}
use Rattle.patterns.specs.Patterns.{rare_in}
use Rattle.pair_decisions.specs.Words.{rares_of, given_in, plain_all}
use Rattle.pair_decisions.proofs.plan_shares.given_shares.Given as goal

abbrev pub invariant-loop-field : goal.invariant-loop-field
invariant-loop-field l = record {
  shares : plain_all l.all.items ≡ given_in (take l.field-index l.plan.fields);
  rares : rare_in l.all.items ≡ rares_of (take l.field-index l.plan.fields);
}
