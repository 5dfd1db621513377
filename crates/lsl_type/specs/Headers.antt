-- What the headers of a script declare.
use Rattle.std.specs.Prelude.{ℕ, Option, List, [], ◌∷◌, ◌++◌, map, length}
use Rattle.lsl_value.specs.declared.tagged.Kind.{Kind}
use Rattle.lsl_tree.specs.declared.script.Param.{Param}
use Rattle.lsl_tree.specs.declared.program_node.Place.TheVariants.{Global}
use Rattle.lsl_tree.specs.Signatures.{Signature}
use Rattle.lsl_tree.specs.Program.{Initial, initial_of}
use Rattle.lsl_bodies.specs.Scope.{ScopeView, scope_of, declared}
use Rattle.lsl_bodies.specs.Known.{KnownView, known_signature_of, kinds_of}
use Rattle.lsl_type.specs.declared.known.Headers.{Headers}

-- what the globals and functions so far declare
pub record HeadersView : Type 0 where
  pub scope : ScopeView
  pub globals : List Initial
  pub functions : List (List ℕ)
  pub signatures : List Signature

abbrev pub headers_of : Headers → HeadersView
headers_of h = record {
  scope = scope_of h.scope;
  globals = map initial_of h.globals.items;
  functions = h.functions;
  signatures = map known_signature_of h.signatures.items;
}

-- one more global, with its initial value
abbrev pub with_global : HeadersView → List ℕ → Kind → Initial → HeadersView
with_global h name k value = record h {
  scope = declared h.scope name (record { place = Global (length h.globals); kind = k });
  globals = h.globals ++ value ∷ [];
}

-- one more function
abbrev pub with_function : HeadersView → List ℕ → Option Kind → List Param → HeadersView
with_function h name k ps = record h {
  functions = name ∷ h.functions;
  signatures = h.signatures ++ record { params = kinds_of ps; result = k } ∷ [];
}

abbrev pub no_headers : HeadersView
no_headers = record { scope = record { names = []; variables = [] }; globals = []; functions = []; signatures = [] }

abbrev pub known_from : HeadersView → List (List ℕ) → KnownView
known_from h states = record { functions = h.functions; signatures = h.signatures; states = states }
