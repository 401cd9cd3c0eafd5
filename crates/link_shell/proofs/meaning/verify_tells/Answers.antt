use Rattle.link_core.specs.Results.{compared_in}
use Rattle.link_shell.proofs.MeaningFacts.{CandidatesAreBounded, rows_are_proof, verify_tells}
use Rattle.link_shell.specs.Meaning.{RowsAreProof}
use Rattle.link_shell.proofs.meaning.verify_tells.Goals as goal

pub returns-clause-told : goal.returns-clause-told
returns-clause-told c =
    let bounded : CandidatesAreBounded = λ plan files rule entries. c.candidates_are_bounded.ensures rule entries plan.terms.award (compared_in plan files) in
    let proof : RowsAreProof = rows_are_proof c.verified_means.ensures.verified c.is_the_rule.ensures bounded in
    verify_tells c.verified_means.ensures.rows c.certified_is_greatest.ensures proof

pub returns-clause-proved : goal.returns-clause-proved
returns-clause-proved c =
    let bounded : CandidatesAreBounded = λ plan files rule entries. c.candidates_are_bounded.ensures rule entries plan.terms.award (compared_in plan files) in
    rows_are_proof c.verified_means.ensures.verified c.is_the_rule.ensures bounded
