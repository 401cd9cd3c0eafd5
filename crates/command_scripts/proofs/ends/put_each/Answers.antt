use Rattle.std.proofs.Common.{◌<◌, arith, length, ◌∙◌}
use Rattle.std.proofs.lemmas.List.{get_or-map, length-map}
use Rattle.command_scripts.specs.Words.{no_put, put_in, puts_in, puts_go, puts_stop}
use Rattle.command_scripts.proofs.ends.put_each.Goals as goal

pub returns-in-Err : goal.returns-in-Err
returns-in-Err g c =
    let lt : c.loop-output.output-index < length (puts_in c.args.outputs.now) = rw (length-map c.args.outputs.now put_in) (omega arith) in
    record { ways = puts_stop (puts_in c.args.outputs.now) c.loop-output.output-index _ _ _ _ _ _ _ _ _ lt (get_or-map put_in c.args.outputs.now c.loop-output.output-index _ no_put c.loop-output-test.true) c.loop-output.invariant.logged c.loop-output.invariant.made c.in-Err.ensures }

pub loop-output-preserved : goal.loop-output-preserved
loop-output-preserved g c =
    let lt : c.loop-output.output-index < length (puts_in c.args.outputs.now) = rw (length-map c.args.outputs.now put_in) (omega arith) in
    let made = c.in-Ok.ensures in
    record {
      logged = made.0 ∙ c.loop-output.invariant.logged;
      made = λ told. puts_go (puts_in c.args.outputs.now) c.loop-output.output-index _ _ _ _ lt (get_or-map put_in c.args.outputs.now c.loop-output.output-index _ no_put c.loop-output-test.true) (c.loop-output.invariant.made told) (made.1 told);
    }
