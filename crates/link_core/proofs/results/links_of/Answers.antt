use Rattle.std.proofs.Common.{refl}
use Rattle.candidate_links.specs.Candidates.{IsChoice}
use Rattle.link_core.specs.Results.{IsPlaced}
use Rattle.link_core.proofs.ResultLemmas.{choice_placed, handed, if_ok}
use Rattle.link_core.proofs.results.links_of.Goals as goal

pub choose_links-chosen-requires : goal.choose_links-chosen-requires
choose_links-chosen-requires c =
    let cs = c.args.found.items in
    let found = handed c.args.rows_a c.args.rows_b c.args.rows_a c.args.rows_b cs cs c.deref.result.now refl refl c.deref.ensures.value c.requires in
    record { count = found.few; rising = found.rising; within = found.within; small = found.small }

pub returns : goal.returns
returns c =
    let n = c.args.rows_a in
    let m = c.args.rows_b in
    let cs = c.args.found.items in
    let chosen = rw c.deref.ensures.value at c.choose_links-chosen.ensures.chosen in
    record {
      chosen = chosen;
      placed = if_ok (IsChoice n m cs) (IsPlaced n m) c.choose_links-chosen.result (λ k h. choice_placed n m cs cs k c.requires h) chosen;
    }
