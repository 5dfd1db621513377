-- The kind of a token: which variant its sort is.
use Rattle.std.specs.Prelude.{ℕ}
use denote.Enum.Declared.{tag_of}
use Rattle.lsl_lex.specs.contracts.token_types.Sort.{the_type}
use Rattle.lsl_lex.specs.declared.token_types.Sort.{Sort}

-- the place of the variant: what a name, an integer or a string holds doesn't count
abbrev pub kind_of : Sort → ℕ
kind_of sort = tag_of the_type sort
