-- What a text is as a date (`std_date`, clauses `read` and `valid`).
use Rattle.std.specs.Prelude.{ℕ, List, Option, Some, None, ℤ, if◌then◌else◌, ⊤}
use Rattle.std.specs.Str.{trim}
use Rattle.link_base.specs.Words.{IsDay}
use Rattle.link_base.specs.declared.plan.DateForm.{DateForm}
use Rattle.value_forms.specs.Written.{date_day}
use Rattle.link_texts.specs.Texts.{stands_among}
use Rattle.standardise.specs.declared.date_read.DateRead.{DateRead}
use Rattle.standardise.specs.declared.date_read.DateRead.TheVariants as read

abbrev pub day_or_unreadable : Option ℤ → DateRead
day_or_unreadable (Some day) = read.Day day
day_or_unreadable None = read.Unreadable

-- absent where the text without the white space at its ends is a missing mark, else its day, else unreadable
abbrev pub date_read : DateForm → List (List ℕ) → List ℕ → DateRead
date_read form marks text = if stands_among marks (trim text) then read.Absent else day_or_unreadable (date_day form (trim text))

-- a day that is read has a civil date of four digits
abbrev pub IsValidRead : DateRead → Type 0
IsValidRead read.Absent = ⊤
IsValidRead (read.Day day) = IsDay day
IsValidRead read.Unreadable = ⊤
