-- Each call is found by its name, so no two have one.
use Rattle.std.proofs.Common.{◌≡◌, ℕ, List, Option, Some, refl}
use Rattle.lsl_value.specs.declared.names.BuiltinId.{BuiltinId}
use Rattle.lsl_value.specs.declared.names.BuiltinId.TheVariants.{Abs}
use Rattle.lsl_table.specs.Calls.{name_of, builtins, builtin_named}
use Rattle.lsl_table.specs.Names.{Finds, NamesDiffer, first_named}
use Rattle.lsl_table.proofs.NameLemmas.{Finds-first_named, Finds-same, names-differ}

builtins-each : (id : BuiltinId) → first_named name_of (name_of id) builtins ≡ Some id
builtins-each Abs = refl
builtins-each _ = refl

pub Finds-builtin_named : (name : List ℕ) → Finds name_of name (builtin_named name)
unfolding builtin_named
Finds-builtin_named = Finds-first_named name_of builtins builtins-each

pub builtin_named-same : (name : List ℕ) (found : Option BuiltinId) → Finds name_of name found
    → found ≡ builtin_named name
unfolding builtin_named
builtin_named-same = Finds-same name_of builtins builtins-each

pub builtins-differ : NamesDiffer name_of
builtins-differ = names-differ name_of builtins builtins-each
