use Rattle.std.proofs.Common.{◌≡◌, get_or, rules}
use Rattle.link_base.specs.Words.{value_seen}
use Rattle.link_base.specs.declared.standard.Value.TheVariants as value
use Rattle.value_forms.specs.Canons.{exact_canon}
use Rattle.standard_files.specs.Taking.{no_day}
use Rattle.standard_files.proofs.KnownLemmas.{day-at}
use Rattle.standard_files.proofs.known.Known.find_day.Goals as goal

pub returns-in-Some : goal.returns-in-Some
returns-in-Some c =
    let days = c.args.self.now.days.items in
    let known = c.in-Some.known.now in
    let o = exact_canon (value_seen c.args.value.now) in
    let is_known : get_or days c.slot_of.result no_day ≡ known = search rules in
    let is_day : exact_canon (value.Day known.day) ≡ o = search rules in
    day-at days c.slot_of.result known c.get-in-Some.result o is_known c.get-in-Some.ensures is_day
