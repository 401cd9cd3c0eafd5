use Rattle.std.proofs.Common.{◌∙◌, ◌<◌, length}
use Rattle.value_pool.specs.Pool.{place_among}
use Rattle.block_passes.specs.NumberingLaws.{place-read, place-within}
use Rattle.block_passes.proofs.StepLemmas.{text-taken}
use Rattle.block_passes.proofs.numbering.Numbering.take.Goals as goal
use Rattle.block_passes.proofs.numbering.Numbering.take.Goals.{in-Ok, in-Err-Full}

pub returns-clause-number : goal.returns-clause-number
returns-clause-number c =
    let old = c.self.inside.codes in
    let new = c.intern.new.self.texts in
    let code = c.args.code.now in
    elim c.match-intern.branch [
      | in-Ok w ↦
          let within : place_among new code < length new = rw (w.in-Ok.ensures.taken.texts ∙ text-taken old code) (place-within old.texts code) in
          rw w.result-is (w.place.ensures ∙ place-read new code w.in-Ok.id w.are_distinct.ensures.same_id w.in-Ok.ensures.found within)
      | in-Err-Full w ↦ rw w.result-is tt
    ]
