use Rattle.std.proofs.Common.{◌≡◌, ap, refl, map, string_bytes}
use Rattle.link_core.specs.NameKeys.{keys_text}
use Rattle.command_scripts.specs.Words.{is_printed, prints, does_lines, takes_ok}
use Rattle.command_scripts.specs.declared.ends.Ended.TheVariants.{Done}
use Rattle.link_shell.proofs.keys.perform.Goals as goal

pub returns : goal.returns
returns g c =
    let keys = keys_text (map string_bytes c.args.words.now) in
    does_lines _ is_printed (λ text. text ≡ keys) c.key_lines-lines.result {x = keys} (takes_ok _ refl) (λ text is. ap (λ t. prints Done t) is) c.key_lines-lines.ensures c.print_lines.ensures.printed c.print_lines.ensures.wanted
