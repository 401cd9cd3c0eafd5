-- The limits, as numbers, each written once (the law `limits_are_these`, part of the clause `always` of `linkage`). The other definitions cite the
-- constants of the code, which are these numbers.
use Rattle.std.specs.Prelude.{◌≡◌}
use Rattle.link_limits.specs.declared.TheConstants.{MOST_CAPACITY, MOST_COLUMNS, MOST_ENTRIES, MOST_FIELD_BYTES, MOST_FIELDS, MOST_FILE_BYTES, MOST_NAME_BYTES, MOST_PAIRS, MOST_PATTERNS, MOST_DISTINCT_BYTES, MOST_ROWS, MOST_VALUE, MOST_WORD_BYTES, MOST_WRITTEN_BYTES, PER_MILLION, WHOLE_FIELD, WHOLE_RULE}
use Rattle.link_plan.specs.declared.limits.TheConstants.{LEAST_RARE, MOST_DAYS, MOST_FIELD_NAME_BYTES, MOST_LABEL_BYTES, MOST_LETTERS, MOST_LISTED_WORDS, MOST_MARK_BYTES, MOST_MARKS, MOST_PARTS, MOST_PASSES, MOST_RARE, MOST_WORD_PAIRS, MOST_YEARS}
use Rattle.link_plan.specs.declared.terms.TheConstants.{MOST_AWARD, MOST_SEED}
use Rattle.link_shell.specs.declared.generate.TheConstants.{HEAD_LINES}
use Rattle.link_shell.specs.declared.words.TheConstants.{MOST_LISTED}

-- bytes of a file that is loaded and of a journal, of a written file, of a name, of a field and of a word, and columns
abbrev pub LimitsOfFiles : Type 0
LimitsOfFiles = (MOST_FILE_BYTES ≡ 67108864) × (MOST_WRITTEN_BYTES ≡ 134217728) × (MOST_NAME_BYTES ≡ 255) × (MOST_FIELD_BYTES ≡ 255) × (MOST_WORD_BYTES ≡ 32) × (MOST_COLUMNS ≡ 64)

-- rows of a file, entries of a journal, compared pairs, bytes of distinct texts, and the capacity of a record
abbrev pub LimitsOfRuns : Type 0
LimitsOfRuns = (MOST_ROWS ≡ 100000) × (MOST_ENTRIES ≡ 1000000) × (MOST_PAIRS ≡ 2000000) × (MOST_DISTINCT_BYTES ≡ 201326592) × (MOST_CAPACITY ≡ 1000)

-- fields, patterns, the wholes of shares and levels, and the greatest value and price
abbrev pub LimitsOfRules : Type 0
LimitsOfRules = (MOST_FIELDS ≡ 6) × (MOST_PATTERNS ≡ 4096) × (WHOLE_FIELD ≡ 1024) × (WHOLE_RULE ≡ 65536) × (PER_MILLION ≡ 1000000) × (MOST_VALUE ≡ 1000000)

-- texts and lists of the settings
abbrev pub LimitsOfLists : Type 0
LimitsOfLists = (MOST_LABEL_BYTES ≡ 255) × (MOST_FIELD_NAME_BYTES ≡ 32) × (MOST_MARK_BYTES ≡ 64) × (MOST_MARKS ≡ 50) × (MOST_LISTED_WORDS ≡ 200) × (MOST_WORD_PAIRS ≡ 1000) × (MOST_PASSES ≡ 8) × (MOST_PARTS ≡ 4)

-- numbers of the settings
abbrev pub LimitsOfSettings : Type 0
LimitsOfSettings = (MOST_LETTERS ≡ 20) × (MOST_DAYS ≡ 36500) × (MOST_YEARS ≡ 100) × (LEAST_RARE ≡ 2) × (MOST_RARE ≡ 200000) × (MOST_AWARD ≡ 1000) × (MOST_SEED ≡ 9223372036854775807)

-- words that `keys` takes, and lines of the report that `generate` prints
abbrev pub LimitsOfCommands : Type 0
LimitsOfCommands = (MOST_LISTED ≡ 100) × (HEAD_LINES ≡ 16)

-- the limits of the product
abbrev pub TheLimits : Type 0
TheLimits = LimitsOfFiles × LimitsOfRuns × LimitsOfRules × LimitsOfLists × LimitsOfSettings × LimitsOfCommands
