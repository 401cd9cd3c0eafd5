use Rattle.value_forms.proofs.TextLemmas.{in_ascii, read_again, ten_bytes}
use Rattle.value_forms.proofs.days.day_read_again.Goals as goal

pub returns : goal.returns
returns c = record { same = read_again; ascii = in_ascii; long = ten_bytes }
