use Rattle.std.proofs.Common.{◌≡◌, arith, map, rules, Some}
use Rattle.file_reader.specs.Words.{records_in, records_few}
use Rattle.link_report.specs.Reading.{rows_begun}
use Rattle.link_report.proofs.HeaderLemmas.{begun_few}
use Rattle.link_report.proofs.reading.rows_begun.Goals as goal

pub returns-clause-few : goal.returns-clause-few
returns-clause-few c =
    let begun : rows_begun (map (λ name. name.now) c.args.header.now) (records_in 44 c.args.bytes.now) ≡ Some c.next.new.self = search rules in
    omega (arith, records_few 44 c.args.bytes.now, begun_few (map (λ name. name.now) c.args.header.now) (records_in 44 c.args.bytes.now) c.next.new.self begun, c.requires)
