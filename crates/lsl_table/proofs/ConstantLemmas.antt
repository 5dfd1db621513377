-- Each constant is found by its name, so no two have one.
use Rattle.std.proofs.Common.{◌≡◌, ℕ, List, Option, Some, refl}
use Rattle.lsl_value.specs.declared.names.ConstantId.{ConstantId}
use Rattle.lsl_value.specs.declared.names.ConstantId.TheVariants.{True}
use Rattle.lsl_table.specs.Constants.{constant_name_of, constants, constant_named}
use Rattle.lsl_table.specs.Names.{Finds, NamesDiffer, first_named}
use Rattle.lsl_table.proofs.NameLemmas.{Finds-first_named, Finds-same, names-differ}

constants-each : (id : ConstantId) → first_named constant_name_of (constant_name_of id) constants ≡ Some id
constants-each True = refl
constants-each _ = refl

pub Finds-constant_named : (name : List ℕ) → Finds constant_name_of name (constant_named name)
unfolding constant_named
Finds-constant_named = Finds-first_named constant_name_of constants constants-each

pub constant_named-same : (name : List ℕ) (found : Option ConstantId) → Finds constant_name_of name found
    → found ≡ constant_named name
unfolding constant_named
constant_named-same = Finds-same constant_name_of constants constants-each

pub constants-differ : NamesDiffer constant_name_of
constants-differ = names-differ constant_name_of constants constants-each
