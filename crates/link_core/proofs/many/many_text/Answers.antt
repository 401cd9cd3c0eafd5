use Rattle.std.proofs.Common.{◌∙◌}
use Rattle.link_core.proofs.many.many_text.Goals as goal

pub link_texts-requires : goal.link_texts-requires
link_texts-requires c =
    let of_a = c.in_ok-a.ensures ∙ c.a.ensures in
    let of_b = c.in_ok-b.ensures ∙ c.b.ensures in
    record {
      in_a = rw (c.deref.ensures.value, of_a) c.requires.in_a;
      in_b = rw (c.deref.ensures.value, of_b) c.requires.in_b;
      priced_a = rw (c.deref-2.ensures.value, of_a) c.requires.priced_a;
      priced_b = rw (c.deref-3.ensures.value, of_b) c.requires.priced_b;
    }
