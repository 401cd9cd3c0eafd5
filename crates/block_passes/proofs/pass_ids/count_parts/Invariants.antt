use Rattle.std.proofs.Common.{◌≡◌, ◌≤◌, ◌+◌, ◌-◌, ◌^◌, drop, min}
use Rattle.block_passes.specs.Keys.{parts_in}
use Rattle.block_passes.proofs.pass_ids.count_parts.Given as goal

abbrev pub invariant-loop-pass : goal.invariant-loop-pass
invariant-loop-pass l = record {
  few : l.parts ≤ 2 ^ 64 - 1;
  counted : min (l.parts + parts_in (drop l.pass-index l.passes)) (2 ^ 64 - 1) ≡ min (parts_in l.passes) (2 ^ 64 - 1);
}
