-- What a body may call, and which states it may change to.
use Rattle.std.specs.Prelude.{◌≡◌, ℕ, Option, Some, ◌⊎◌, List, map, slice_get}
use Rattle.std.specs.Option.{option_map}
use Rattle.lsl_value.specs.declared.tagged.Kind.{Kind}
use Rattle.lsl_tree.specs.declared.script.Param.{Param}
use Rattle.lsl_tree.specs.declared.program_node.Callee.{Callee}
use Rattle.lsl_tree.specs.declared.program_node.Callee.TheVariants.{Function, Builtin}
use Rattle.lsl_tree.specs.Signatures.{Signature}
use Rattle.lsl_bodies.specs.declared.known.Signature as declared_signature
use Rattle.lsl_bodies.specs.declared.known.Known.{Known}
use Rattle.lsl_bodies.specs.Names.{IsNearest}
use Rattle.lsl_bodies.specs.Table.{builtin_of, IsBuiltin, params_of, result_of}

-- functions by number, and the states but `default`
pub record KnownView : Type 0 where
  pub functions : List (List ℕ)
  pub signatures : List Signature
  pub states : List (List ℕ)

abbrev pub known_signature_of : declared_signature.Signature → Signature
known_signature_of s = record { params = s.params.items; result = s.result }

abbrev pub known_of : Known → KnownView
known_of k =
    record { functions = k.functions; signatures = map known_signature_of k.signatures.items; states = k.states }

-- what a called name refers to, and how it is called
pub record Calling : Type 0 where
  pub callee : Callee
  pub signature : Signature

abbrev pub IsFunction : KnownView → List ℕ → ℕ → Signature → Type 0
IsFunction k name number s = IsNearest name k.functions number × (slice_get k.signatures number ≡ Some s)

-- a function of the script, or otherwise a built-in call
abbrev pub IsCallable : KnownView → List ℕ → Calling → Type 0
IsCallable k name c =
    ((number : ℕ) × IsFunction k name number c.signature × (c.callee ≡ Function number))
    ⊎ (((number : ℕ) (s : Signature) → IsFunction k name number s → ⊥)
    × ((id : _) × IsBuiltin name id
    × (c ≡ record { callee = Builtin id; signature = record { params = params_of id; result = result_of id } })))

abbrev pub function_of : KnownView → ℕ → Option Calling
function_of k number =
    option_map (λ s. record { callee = Function number; signature = s }) (slice_get k.signatures number)

abbrev pub builtin_called_of : List ℕ → Option Calling
builtin_called_of name =
    option_map (λ id. record {
      callee = Builtin id;
      signature =
          record { params = params_of id; result = result_of id };
    })
    (builtin_of name)

abbrev pub kinds_of : List Param → List Kind
kinds_of ps = map (λ p. p.kind) ps
