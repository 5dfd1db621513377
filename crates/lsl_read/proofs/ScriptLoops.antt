-- What the loops over scripts rely on.
use Rattle.std.proofs.Common.{◌≡◌, ℕ, suc, ◌+◌, ◌<◌, true, false, Option, None, List, [], ◌∷◌, ◌++◌, length, map, Ok, refl, ap, ◌∙◌, arith}
use Rattle.std.proofs.lemmas.List.{map-append}
use Rattle.lsl_lex.specs.declared.token_types.Token.{Token}
use Rattle.lsl_tree.specs.declared.script.Atom.{Atom}
use Rattle.lsl_tree.specs.declared.script.Param.{Param}
use Rattle.lsl_tree.specs.Scripts.{Header, Handler, State}
use Rattle.lsl_grammar.specs.Language.{among, ret, ◌>>=◌ as ◌>=>◌}
use Rattle.lsl_grammar.specs.Reading.{begins}
use Rattle.lsl_grammar.proofs.Rule.{Solid}
use Rattle.lsl_grammar.proofs.Until.{shrinks}
use Rattle.lsl_grammar.proofs.Loops.{rounds_step}
use Rattle.lsl_lex.specs.declared.token_types.Sort.{Sort}
use Rattle.lsl_lex.specs.declared.token_types.Sort.TheVariants.{StateWord, Comma}
use Rattle.lsl_signs.specs.Kinds.{Name, codes, token_code, types}
use Rattle.lsl_read.specs.ExpressionGrammar.{Language, sign}
use Rattle.lsl_read.specs.ExpressionReading.{TokenReader, while_r, comma_r}
use Rattle.lsl_read.specs.StatementGrammar.{stmt_room_of}
use Rattle.lsl_read.specs.StatementReading.{stmt_room_r}
use Rattle.lsl_read.specs.ScriptGrammar.{added, atom, param, header, handler, state}
use Rattle.lsl_read.specs.ScriptReading.{next_r, many_r, atom_r, param_r, header_r, handler_r, state_r, header_heads}
use Rattle.lsl_read.proofs.ExpressionRules.{probe, next_solid}
use Rattle.lsl_read.proofs.ScriptRules.{atom_heads, atom_solid, param_solid, each_solid, header_solid, handler_solid, state_solid}

pub map-push : {A B : Type 0} (f : A → B) (all xs : List A) (x : A) → all ≡ xs ++ x ∷ []
    → map f all ≡ added (map f xs) (f x)
map-push f all xs x e = ap (map f) e ∙ map-append f xs (x ∷ [])

module _ {A : Type 0} (L M : Language A) (p q : TokenReader A) (f : List ℕ)
    (s : Solid token_code probe L M p q f []) where
  pub comma_less : (a b : List A) (ts rest : List Token) → comma_r added p a ts ≡ Ok (b, rest) → length rest < length ts
  comma_less a b ts rest e =
      let r = next_solid added [] L M p q f [] s refl refl a in
      shrinks token_code (sign Comma >=> λ comma. L >=> λ next. ret (added a next)) (comma_r added p a)
      (codes (Comma ∷ [])) (λ _. []) r.rule.reads r.full ts rest b e

  pub comma_step : (a b : List A) (ts rest : List Token) → begins token_code (codes (Comma ∷ [])) ts ≡ true
      → comma_r added p a ts ≡ Ok (b, rest)
      → while_r (Comma ∷ []) (comma_r added p) a ts ≡ while_r (Comma ∷ []) (comma_r added p) b rest
  comma_step a b ts rest t e = rounds_step token_code (codes (Comma ∷ [])) (comma_r added p) comma_less a b ts rest t e

module _ {A : Type 0} (ks : List Sort) (L M : Language A) (p q : TokenReader A)
    (s : Solid token_code probe L M p q (codes ks) []) (lone : among probe (codes ks) ≡ false) where
  pub many_less : (a b : List A) (ts rest : List Token) → next_r p a ts ≡ Ok (b, rest) → length rest < length ts
  many_less a b ts rest e =
      let r = each_solid ks L M p q s lone a in
      shrinks token_code (L >=> λ next. ret (added a next)) (next_r p a) (codes ks) (λ _. []) r.rule.reads
      r.full ts rest b e

  pub many_step : (a b : List A) (ts rest : List Token) → begins token_code (codes ks) ts ≡ true
      → next_r p a ts ≡ Ok (b, rest) → many_r ks p a ts ≡ many_r ks p b rest
  many_step a b ts rest t e = rounds_step token_code (codes ks) (next_r p) many_less a b ts rest t e

pub atom_less : (a b : List Atom) (ts rest : List Token) → comma_r added atom_r a ts ≡ Ok (b, rest)
    → length rest < length ts
atom_less = comma_less atom atom atom_r atom_r atom_heads atom_solid

pub atom_step : (a b : List Atom) (ts rest : List Token) → begins token_code (codes (Comma ∷ [])) ts ≡ true
    → comma_r added atom_r a ts ≡ Ok (b, rest)
    → while_r (Comma ∷ []) (comma_r added atom_r) a ts ≡ while_r (Comma ∷ []) (comma_r added atom_r) b rest
atom_step = comma_step atom atom atom_r atom_r atom_heads atom_solid

pub param_less : (a b : List Param) (ts rest : List Token) → comma_r added param_r a ts ≡ Ok (b, rest)
    → length rest < length ts
param_less = comma_less param param param_r param_r (codes types) param_solid

pub param_step : (a b : List Param) (ts rest : List Token) → begins token_code (codes (Comma ∷ [])) ts ≡ true
    → comma_r added param_r a ts ≡ Ok (b, rest)
    → while_r (Comma ∷ []) (comma_r added param_r) a ts ≡ while_r (Comma ∷ []) (comma_r added param_r) b rest
param_step = comma_step param param param_r param_r (codes types) param_solid

module _ (limit : Option ℕ) (d : ℕ) where
  two : suc d < d + 2
  two = omega arith

  pub header_less : (a b : List Header) (ts rest : List Token)
      → next_r (header_r (stmt_room_r limit d)) a ts ≡ Ok (b, rest) → length rest < length ts
  header_less = many_less header_heads (header (stmt_room_of limit d)) (header (stmt_room_of None (d + 2)))
      (header_r (stmt_room_r limit d)) (header_r (stmt_room_r None (d + 2))) (header_solid limit d (d + 2) two)
      refl

  pub header_step : (a b : List Header) (ts rest : List Token)
      → begins token_code (codes header_heads) ts ≡ true
      → next_r (header_r (stmt_room_r limit d)) a ts ≡ Ok (b, rest)
      → many_r header_heads (header_r (stmt_room_r limit d)) a ts
      ≡ many_r header_heads (header_r (stmt_room_r limit d)) b rest
  header_step = many_step header_heads (header (stmt_room_of limit d)) (header (stmt_room_of None (d + 2)))
      (header_r (stmt_room_r limit d)) (header_r (stmt_room_r None (d + 2))) (header_solid limit d (d + 2) two)
      refl

  pub handler_less : (a b : List Handler) (ts rest : List Token)
      → next_r (handler_r (stmt_room_r limit d)) a ts ≡ Ok (b, rest) → length rest < length ts
  handler_less = many_less (Name ∷ []) (handler (stmt_room_of limit d)) (handler (stmt_room_of None (d + 2)))
      (handler_r (stmt_room_r limit d)) (handler_r (stmt_room_r None (d + 2)))
      (handler_solid limit d (d + 2) two) refl

  pub handler_step : (a b : List Handler) (ts rest : List Token)
      → begins token_code (codes (Name ∷ [])) ts ≡ true
      → next_r (handler_r (stmt_room_r limit d)) a ts ≡ Ok (b, rest)
      → many_r (Name ∷ []) (handler_r (stmt_room_r limit d)) a ts
      ≡ many_r (Name ∷ []) (handler_r (stmt_room_r limit d)) b rest
  handler_step = many_step (Name ∷ []) (handler (stmt_room_of limit d)) (handler (stmt_room_of None (d + 2)))
      (handler_r (stmt_room_r limit d)) (handler_r (stmt_room_r None (d + 2)))
      (handler_solid limit d (d + 2) two) refl

  pub state_less : (a b : List State) (ts rest : List Token)
      → next_r (state_r (stmt_room_r limit d)) a ts ≡ Ok (b, rest) → length rest < length ts
  state_less = many_less (StateWord ∷ []) (state (stmt_room_of limit d)) (state (stmt_room_of None (d + 2)))
      (state_r (stmt_room_r limit d)) (state_r (stmt_room_r None (d + 2))) (state_solid limit d (d + 2) two)
      refl

  pub state_step : (a b : List State) (ts rest : List Token)
      → begins token_code (codes (StateWord ∷ [])) ts ≡ true
      → next_r (state_r (stmt_room_r limit d)) a ts ≡ Ok (b, rest)
      → many_r (StateWord ∷ []) (state_r (stmt_room_r limit d)) a ts
      ≡ many_r (StateWord ∷ []) (state_r (stmt_room_r limit d)) b rest
  state_step = many_step (StateWord ∷ []) (state (stmt_room_of limit d)) (state (stmt_room_of None (d + 2)))
      (state_r (stmt_room_r limit d)) (state_r (stmt_room_r None (d + 2))) (state_solid limit d (d + 2) two)
      refl
