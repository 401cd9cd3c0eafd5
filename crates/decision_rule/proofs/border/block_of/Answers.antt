use Rattle.std.proofs.Common.{◌≡◌, ◌≢◌, ◌+◌, ◌*◌, ◌%◌, ◌^◌, ◌<◌, length, ap, arith, get_or-set_same, get_or-set_other, below_more, ◌∙◌, length-set}
use Rattle.rand_chacha.specs.ChaCha.{word_at}
use Rattle.decision_rule.proofs.border.block_of.Goals as goal

pub loop-i-preserved : goal.loop-i-preserved
loop-i-preserved c =
    let inv = c.loop-i.invariant in
    let drawn = ap (λ p. p.0) c.next_word.ensures in
    let after = ap (λ p. p.1) c.next_word.ensures in
    let word : c.next_word.result ≡ word_at 10 c.args.rng.now.key 0 (c.args.block * 16 + c.loop-i.i) = rw (inv.key, inv.stream, inv.place) at drawn in
    let place : c.next_word.new.self.word_pos ≡ (c.loop-i.rng.word_pos + 1) % 2 ^ 68 = ap (λ g. g.word_pos) after in
    record {
      key = ap (λ g. g.key) after ∙ inv.key;
      stream = ap (λ g. g.stream) after ∙ inv.stream;
      place = omega (arith, place, inv.place, c.requires.block);
      size = omega (arith, length-set c.loop-i.words c.loop-i.i c.next_word.result, inv.size);
      words = below_more _ _
          (λ k h. let ne : k ≢ c.loop-i.i = omega arith in rw get_or-set_other (inv.words k h))
          (let lt : c.loop-i.i < length c.loop-i.words = omega (arith, inv.size) in rw get_or-set_same word);
    }
