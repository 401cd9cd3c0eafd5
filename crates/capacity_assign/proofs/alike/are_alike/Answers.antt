use Rattle.std.proofs.Common.{◌≡◌, ◌+◌, ◌-◌, sym, arith}
use Rattle.assignment_steps.specs.Words.{IsStart, number}
use Rattle.capacity_assign.proofs.Final.{copies_of_equal, equal_back, starts_rise}
use Rattle.capacity_assign.proofs.alike.are_alike.Goals as goal

pub overflow_sub-starts : goal.overflow_sub-starts
overflow_sub-starts c =
    let s = c.args.starts.now in
    let r = c.args.r in
    starts_rise c.args.edges.now r (number s r) (number s (r + 1)) (c.requires.starts r (omega (arith, c.requires.other))) (c.requires.starts (r + 1) c.requires.other)

pub returns : goal.returns
returns c same =
    let es = c.args.edges.now in
    let s = c.args.starts.now in
    let a = c.args.a in
    let r = c.args.r in
    let ha : IsStart es a (number s a) = c.requires.starts a (omega (arith, c.requires.one)) in
    let na : IsStart es (a + 1) (number s (a + 1)) = c.requires.starts (a + 1) c.requires.one in
    let hr : IsStart es r (number s r) = c.requires.starts r (omega (arith, c.requires.other)) in
    let nr : IsStart es (r + 1) (number s (r + 1)) = c.requires.starts (r + 1) c.requires.other in
    let count : number s (r + 1) - number s r ≡ number s (a + 1) - number s a = c.if-starts-r.false in
    let equal = c.are_equal.ensures same in (
      copies_of_equal es a r (number s a) (number s (a + 1)) (number s r) (number s (r + 1)) ha na hr nr count equal,
      copies_of_equal es r a (number s r) (number s (r + 1)) (number s a) (number s (a + 1)) hr nr ha na (sym count) (rw count (equal_back es (number s a) (number s r) (number s (a + 1) - number s a) equal)),
    )
