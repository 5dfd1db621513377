-- How long a text may be.
use Rattle.std.specs.Prelude.{ℕ}

-- how many bytes a text has at most
abbrev pub source_bytes : ℕ
source_bytes = 65536
