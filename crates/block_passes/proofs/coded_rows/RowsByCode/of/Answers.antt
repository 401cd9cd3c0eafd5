use Rattle.std.proofs.Common.{◌≡◌, ◌∷◌, ◌++◌, ◌∙◌, [], ap, arith, rules}
use Rattle.block_passes.specs.Numbering.{code_if}
use Rattle.block_passes.specs.NumberingLaws.{given_more, group-is, numbered_more}
use Rattle.block_passes.proofs.coded_rows.RowsByCode.of.Goals as goal

pub loop-at-preserved : goal.loop-at-preserved
loop-at-preserved g c =
    let code_of = g.K.CodedRows.code_of c.args.keys.now in
    let at = c.loop-at.at in
    let old = c.loop-at.numbering in
    let new = c.number.new.self in
    let inv = c.loop-at.invariant in
    let made = c.in_ok-number.ensures in
    let code = ap (code_if c.in_ok-has_code.has_code) c.deref.ensures.value ∙ c.in_ok-has_code.ensures in
    let grown : c.push.new.self.items ≡ c.loop-at.numbers.items ++ c.in_ok-number.number ∷ [] = search (rules, c.in_ok-push.ensures.items) in
    record {
      numbers = given_more old new code_of at c.loop-at.numbers.items c.push.new.self.items c.in_ok-number.number made.kept inv.numbered inv.numbers grown (rw code at made.number);
      numbered = numbered_more old new code_of at made.kept inv.numbered (rw code at made.numbered);
    }

pub returns : goal.returns
returns g c = λ code.
    let all : c.loop-at.at ≡ g.K.CodedRows.count c.args.keys.now = omega (arith, c.loop-at.auto.at-end) in
    let numbers = rw all at c.loop-at.invariant.numbers in
    let groups = rw (c.deref-2.ensures.value, c.count.ensures.count) at c.in_ok-groups.ensures in
    group-is c.loop-at.numbering (omega (arith, c.count.ensures.few)) c.loop-at.numbers.items c.in_ok-groups.groups (g.K.CodedRows.code_of c.args.keys.now) (g.K.CodedRows.count c.args.keys.now)
    groups numbers.0 numbers.1 (rw all at c.loop-at.invariant.numbered) code
