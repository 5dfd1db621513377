-- Pairs in the order of their names' bytes, and the entries of a map of them.
use Rattle.std.proofs.Common.{◌≡◌, ◌∙◌, refl, sym, ap, subst, ℕ, ◌+◌, Bool, true, false, cond, find, List, [], ◌∷◌, ◌++◌, Some, None, unwrap_or}
use Rattle.std.specs.Cmp.Lexicographic.{slice_cmp}
use Rattle.std.specs.Map.{lookup, remove_entry, values_of}
use Rattle.std.specs.BTreeMap.{insert_entry}
use Rattle.std.specs.Option.{option_map}
use Rattle.std.specs.Ordering.{is_eq, is_lt, nat_cmp}
use Rattle.std.specs.Str.{bytes_eq, encode_utf8_all}
use Rattle.std.specs.String.{string_bytes, string_cmp}
use Rattle.std.specs.declared.cmp.Ordering.{Ordering}
use Rattle.std.specs.declared.cmp.Ordering.TheVariants.{Less, Equal, Greater}
use Rattle.std.specs.Prelude.{String}
use Rattle.std.specs.declared.alloc.Global.{Global}
use Rattle.std.proofs.lemmas.Bool.{false≢true}
use Rattle.std.proofs.lemmas.Cmp.{nat_list_cmp_total, nat_list_eq_equiv}
use Rattle.std.proofs.lemmas.Map.Text.{is_eq-slice_cmp}
use Rattle.std.proofs.lemmas.Slice.Eq.{bytes_eq-Decides}
use Rattle.lsl_post.specs.declared.parts.Pair.{Pair}
use Rattle.lsl_image.specs.Object.{pair_bytes}
use Rattle.lsl_image.specs.Valid.{Ascend}
use Rattle.lsl_data.specs.Kept.{AreNamed, Entries}
use Rattle.lsl_data.specs.Pairs.{bytes_of, pair_at, same_name, value_at, with_pair, without}
use Rattle.lsl_data.proofs.InOrder.{Rises, Rises-put, Rises-filter, above-trans, coded-insert_entry, coded-remove_entry, find-others, find-put, lookup-find, put-last, sum-others, sum-put, values-insert_entry, values-remove_entry}

abbrev order : List ℕ → List ℕ → Ordering
order = slice_cmp nat_cmp

abbrev key : Pair → List ℕ
key p = encode_utf8_all p.name

agrees : (a b : List ℕ) → bytes_eq a b ≡ is_eq (order a b)
agrees a b = sym (is_eq-slice_cmp a b)

abbrev pub Rising : List Pair → Type 0
Rising = Rises nat_list_cmp_total key

less : (r : Ordering) → is_lt r ≡ true → r ≡ Less
less Less e = refl
less Equal e = absurd (false≢true e)
less Greater e = absurd (false≢true e)

pub rising : (pairs : List Pair) → Ascend pairs → Rising pairs
rising [] a = tt
rising (p ∷ []) a = (tt, tt)
rising (p ∷ q ∷ pairs) a =
    let rest = rising (q ∷ pairs) a.1 in
    let below = less (order (key p) (key q)) a.0 in
    ((below, above-trans nat_list_cmp_total key (key p) (key q) pairs below rest.0), rest)

pub ascending : (pairs : List Pair) → Rising pairs → Ascend pairs
ascending [] r = tt
ascending (p ∷ []) r = tt
ascending (p ∷ q ∷ pairs) r = (ap is_lt r.0.0, ascending (q ∷ pairs) r.1)

pub Ascend-with_pair : (pairs : List Pair) (p : Pair) → Ascend pairs → Ascend (with_pair pairs p)
unfolding with_pair
Ascend-with_pair pairs p a =
    ascending (with_pair pairs p) (Rises-put nat_list_cmp_total key pairs p (rising pairs a))

pub Ascend-without : (pairs : List Pair) (name : List ℕ) → Ascend pairs → Ascend (without pairs name)
unfolding without
Ascend-without pairs name a =
    ascending (without pairs name) (Rises-filter nat_list_cmp_total key _ pairs (rising pairs a))

pub with_pair-last : (pairs : List Pair) (p : Pair) → Ascend (pairs ++ p ∷ [])
    → with_pair pairs p ≡ pairs ++ p ∷ []
unfolding with_pair
with_pair-last pairs p a = put-last nat_list_cmp_total key pairs p (rising (pairs ++ p ∷ []) a)

pub value-with_pair : (pairs : List Pair) (p : Pair) (name : List ℕ)
    → value_at (with_pair pairs p) name ≡ cond (same_name name p.name) (Some p.value) (value_at pairs name)
unfolding with_pair pair_at
value-with_pair pairs p name =
    ap (option_map (λ q. q.value)) (find-put nat_list_cmp_total key bytes_eq agrees
    (encode_utf8_all name) pairs p)
    ∙ under (same_name name p.name)
  where
    under : (b : Bool) → option_map (λ (q : Pair). q.value)
        (cond b (Some p) (find (λ q. same_name name q.name) pairs))
        ≡ cond b (Some p.value) (option_map (λ (q : Pair). q.value) (find (λ q. same_name name q.name) pairs))
    under true = refl
    under false = refl

pub value-without : (pairs : List Pair) (gone name : List ℕ)
    → value_at (without pairs gone) name ≡ cond (same_name name gone) None (value_at pairs name)
unfolding without pair_at
value-without pairs gone name =
    ap (option_map (λ q. q.value)) (find-others nat_list_cmp_total key bytes_eq agrees (encode_utf8_all name)
    (encode_utf8_all gone) pairs)
    ∙ under (same_name gone name)
    ∙ ap (λ (b : Bool). cond b None (value_at pairs name)) (nat_list_eq_equiv.symm (encode_utf8_all gone)
    (encode_utf8_all name))
  where
    under : (b : Bool) → option_map (λ (q : Pair). q.value)
        (cond b None (find (λ q. same_name name q.name) pairs))
        ≡ cond b None (option_map (λ (q : Pair). q.value) (find (λ q. same_name name q.name) pairs))
    under true = refl
    under false = refl

-- how many bytes the pair of a name has
abbrev pub bytes_at : List Pair → List ℕ → ℕ
bytes_at pairs name = unwrap_or (option_map pair_bytes (pair_at pairs name)) 0

pub bytes-with_pair : (pairs : List Pair) (p : Pair) → Ascend pairs
    → bytes_of (with_pair pairs p) + bytes_at pairs p.name ≡ bytes_of pairs + pair_bytes p
unfolding with_pair pair_at
bytes-with_pair pairs p a = sum-put nat_list_cmp_total key bytes_eq agrees pair_bytes pairs p (rising pairs a)

pub bytes-without : (pairs : List Pair) (name : List ℕ) → Ascend pairs
    → bytes_of (without pairs name) + bytes_at pairs name ≡ bytes_of pairs
unfolding without pair_at
bytes-without pairs name a =
    sum-others nat_list_cmp_total key bytes_eq agrees pair_bytes pairs (encode_utf8_all name) (rising pairs a)

-- the entries of a map

exact : (a b : String Global) → order (string_bytes a) (string_bytes b) ≡ Equal → string_bytes a ≡ string_bytes b
exact a b e =
    (bytes_eq-Decides (string_bytes a) (string_bytes b)).0
    (agrees (string_bytes a) (string_bytes b) ∙ ap is_eq e)

module _ (es : Entries) where
  pub values-put : (k : String Global) (p : Pair) → string_bytes k ≡ encode_utf8_all p.name → AreNamed es
      → Ascend (values_of es) → values_of (insert_entry string_cmp es k p) ≡ with_pair (values_of es) p
  unfolding with_pair
  values-put k p c named a =
      values-insert_entry nat_list_cmp_total key string_bytes es k p c named (rising (values_of es) a)

  pub named-put : (k : String Global) (p : Pair) → string_bytes k ≡ encode_utf8_all p.name → AreNamed es
      → AreNamed (insert_entry string_cmp es k p)
  named-put k p c named = coded-insert_entry nat_list_cmp_total key string_bytes es k p c named exact

  module _ (name bytes : List ℕ) (spelt : bytes ≡ encode_utf8_all name) where
    -- the look-up compares these bytes with each key
    abbrev pub finds : String Global → Bool
    finds k = is_eq (slice_cmp nat_cmp bytes (string_bytes k))

    pub values-take : AreNamed es → Ascend (values_of es)
        → values_of (remove_entry finds es) ≡ without (values_of es) name
    unfolding without
    values-take named a =
        subst (λ (b : List ℕ). values_of (remove_entry (λ k. is_eq (slice_cmp nat_cmp b (string_bytes k))) es)
        ≡ without (values_of es) name)
        (sym spelt)
        (values-remove_entry nat_list_cmp_total key bytes_eq agrees string_bytes es
        (encode_utf8_all name) named (rising (values_of es) a))

    pub named-take : AreNamed es → AreNamed (remove_entry finds es)
    named-take named = coded-remove_entry nat_list_cmp_total key bytes_eq agrees string_bytes es finds named

    pub value-found : AreNamed es → lookup finds es ≡ pair_at (values_of es) name
    unfolding pair_at
    value-found named =
        subst (λ (b : List ℕ). lookup (λ k. is_eq (slice_cmp nat_cmp b (string_bytes k))) es
        ≡ pair_at (values_of es) name)
        (sym spelt)
        (lookup-find nat_list_cmp_total key bytes_eq agrees string_bytes es (encode_utf8_all name) named)
