use Rattle.std.proofs.lemmas.List.{take_all}
use Rattle.link_report.proofs.HeaderLemmas.{line_written}
use Rattle.link_report.proofs.head.push_line.Goals as goal

pub returns : goal.returns
returns c =
    line_written c.args.text.now.items c.args.name.now c.extend_from_slice.new.self.items c.loop-number.text.items c.push-2.new.self.items c.args.numbers.now
    c.in_ok-extend_from_slice.ensures.items (rw (take_all c.loop-number.number-index c.args.numbers.now c.loop-number-test.false) at c.loop-number.invariant) c.in_ok-push-2.ensures.items
