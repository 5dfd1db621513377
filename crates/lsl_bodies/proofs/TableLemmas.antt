-- What is found by a name is what has the name.
use Rattle.std.proofs.Common.{◌≡◌, ℕ, Option, Some, List, sym, subst}
use Rattle.lsl_value.specs.declared.names.BuiltinId.{BuiltinId}
use Rattle.lsl_value.specs.declared.names.ConstantId.{ConstantId}
use Rattle.lsl_value.specs.declared.names.EventId.{EventId}
use Rattle.lsl_table.specs.Names.{Finds}
use Rattle.lsl_table.specs.Calls.{name_of}
use Rattle.lsl_table.specs.Constants.{constant_name_of}
use Rattle.lsl_table.specs.Events.{event_name_of}
use Rattle.lsl_table.proofs.CallLemmas.{Finds-builtin_named, builtin_named-same}
use Rattle.lsl_table.proofs.ConstantLemmas.{Finds-constant_named, constant_named-same}
use Rattle.lsl_table.proofs.EventLemmas.{Finds-event_named, event_named-same}
use Rattle.lsl_bodies.specs.Table.{builtin_of, event_of, constant_of}

pub builtin_of-some : (name : List ℕ) (id : BuiltinId) → builtin_of name ≡ Some id → name_of id ≡ name
builtin_of-some name id found = subst (λ (o : Option BuiltinId). Finds name_of name o) found (Finds-builtin_named name)

pub builtin_of-named : (name : List ℕ) (id : BuiltinId) → name_of id ≡ name → builtin_of name ≡ Some id
builtin_of-named name id named = sym (builtin_named-same name (Some id) named)

pub constant_of-some : (name : List ℕ) (id : ConstantId) → constant_of name ≡ Some id → constant_name_of id ≡ name
constant_of-some name id found = subst (λ (o : Option ConstantId). Finds constant_name_of name o) found
    (Finds-constant_named name)

pub constant_of-named : (name : List ℕ) (id : ConstantId) → constant_name_of id ≡ name → constant_of name ≡ Some id
constant_of-named name id named = sym (constant_named-same name (Some id) named)

pub event_of-some : (name : List ℕ) (id : EventId) → event_of name ≡ Some id → event_name_of id ≡ name
event_of-some name id found = subst (λ (o : Option EventId). Finds event_name_of name o) found (Finds-event_named name)

pub event_of-named : (name : List ℕ) (id : EventId) → event_name_of id ≡ name → event_of name ≡ Some id
event_of-named name id named = sym (event_named-same name (Some id) named)
