use Rattle.file_reader.specs.Words.{heading_of, IsPlain}
use Rattle.file_reader.proofs.ReadFacts.{plain_faultless}
use Rattle.file_reader.proofs.rows.test_texts.Goals as goal

pub returns-then-are_plain : goal.returns-then-are_plain
returns-then-are_plain c =
    let plain : IsPlain c.as_slice-bytes.result.now = (c.are_plain.ensures.0 c.if-are_plain.true, c.if-bytes-le-MOST_FIELD_BYTES.true) in
    record { fault = plain_faultless (heading_of c.args.head.now) c.args.row.now (rw c.as_slice-bytes.ensures at plain) c.args.number }
