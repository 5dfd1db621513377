-- An image encodes one thing, and has no fault; other bytes have one first fault.
use Rattle.std.proofs.Common.{◌≡◌, ◌∙◌, sym, ap, inl, inr, ◌⊎◌, arith, ℕ, List, length, drop}
use Rattle.sha2.specs.Sha256.{sha256}
use Rattle.lsl_bytes.proofs.NumberLemmas.{u64-prefix_free}
use Rattle.lsl_image.specs.declared.faults.ImageFault.{ImageFault}
use Rattle.lsl_image.specs.declared.faults.ImageFault.TheVariants.{Size, Digest, Version, WrongCode, Body, NotFrozen}
use Rattle.lsl_image.specs.Images.{HasSize, IsFirstFault, IsImage, IsIntact, IsOuterFault, NamesSize, WantsSize, covered, digest_in, digested}
use Rattle.lsl_image.specs.Layout.{Layout}
use Rattle.lsl_image.proofs.LayoutLemmas.{faults-one, gives-no_fault, gives-one}

pub image-one : {A : Type 0} (layout : ℕ → Layout A) (bytes : List ℕ) (a b : A) → IsImage layout bytes a
    → IsImage layout bytes b → a ≡ b
image-one layout bytes a b g h = (gives-one (covered bytes) (layout (digested bytes)) 0 a b (digested bytes)
    (digested bytes) g.1 h.1).0

size-one : (bytes : List ℕ) (m n : ℕ) → NamesSize bytes m → NamesSize bytes n → m ≡ n
size-one bytes m n p q = (u64-prefix_free m n (drop 14 bytes) (drop 14 bytes) p.0 q.0 (sym p.1.parts ∙ q.1.parts)).0

size-right : (bytes : List ℕ) (wanted : ℕ) → HasSize bytes → WantsSize bytes wanted → ⊥
size-right bytes wanted has (inl few) = omega (arith, has.0, few.0)
size-right bytes wanted has (inr other) = other.2 (size-one bytes wanted (length bytes) other.1 has.1)

outer-wrong : (bytes : List ℕ) (fault : ImageFault) → IsIntact bytes → IsOuterFault bytes fault → ⊥
outer-wrong bytes (Size found wanted) intact f = size-right bytes wanted intact.0 f.1
outer-wrong bytes (Digest found wanted) intact f = f.1.2 (f.1.0 ∙ sym intact.1 ∙ sym f.1.1)
outer-wrong bytes (Version n) intact f = f.1
outer-wrong bytes (WrongCode found wanted) intact f = f.1
outer-wrong bytes (Body place) intact f = f.1
outer-wrong bytes NotFrozen intact f = f.1

pub image-no_fault : {A : Type 0} (layout : ℕ → Layout A) (bytes : List ℕ) (a : A) (fault : ImageFault)
    → IsImage layout bytes a → IsFirstFault layout bytes fault → ⊥
image-no_fault layout bytes a fault g (inl f) = outer-wrong bytes fault g.0 f
image-no_fault layout bytes a fault g (inr f) =
    gives-no_fault (covered bytes) (layout (digested bytes)) 0 a (digested bytes) fault g.1 f.1

wants-one : (bytes : List ℕ) (m n : ℕ) → WantsSize bytes m → WantsSize bytes n → m ≡ n
wants-one bytes m n (inl p) (inl q) = p.1 ∙ sym q.1
wants-one bytes m n (inl p) (inr q) = absurd (omega (arith, p.0, q.0))
wants-one bytes m n (inr p) (inl q) = absurd (omega (arith, p.0, q.0))
wants-one bytes m n (inr p) (inr q) = size-one bytes m n p.1 q.1

-- the two kinds of outer faults
IsOfSize : List ℕ → ImageFault → Type 0
IsOfSize bytes fault = (wanted : ℕ) × (fault ≡ Size (length bytes) wanted) × WantsSize bytes wanted

IsOfDigest : List ℕ → ImageFault → Type 0
IsOfDigest bytes fault = (fault ≡ Digest (sha256 (covered bytes)) (digest_in bytes)) × HasSize bytes

outer-kind : (bytes : List ℕ) (fault : ImageFault) → IsOuterFault bytes fault
    → IsOfSize bytes fault ⊎ IsOfDigest bytes fault
unfolding IsOfSize IsOfDigest
outer-kind bytes (Size found wanted) f = inl (wanted, ap (λ (n : ℕ). Size n wanted) f.0, f.1)
outer-kind bytes (Digest found wanted) f = inr (digest-same found wanted f.1.0 f.1.1, f.0)
  where
    digest-same : (found wanted : List ℕ) → found ≡ sha256 (covered bytes) → wanted ≡ digest_in bytes
        → Digest found wanted ≡ Digest (sha256 (covered bytes)) (digest_in bytes)
    digest-same found wanted p q = ap (λ (x : List ℕ). Digest x wanted) p
        ∙ ap (λ (x : List ℕ). Digest (sha256 (covered bytes)) x) q
outer-kind bytes (Version n) f = absurd f.1
outer-kind bytes (WrongCode found wanted) f = absurd f.1
outer-kind bytes (Body place) f = absurd f.1
outer-kind bytes NotFrozen f = absurd f.1

kinds-one : (bytes : List ℕ) (a b : ImageFault) → IsOfSize bytes a ⊎ IsOfDigest bytes a
    → IsOfSize bytes b ⊎ IsOfDigest bytes b → a ≡ b
unfolding IsOfSize IsOfDigest
kinds-one bytes a b (inl p) (inl q) =
    p.1 ∙ ap (λ (n : ℕ). Size (length bytes) n) (wants-one bytes p.0 q.0 p.2 q.2) ∙ sym q.1
kinds-one bytes a b (inl p) (inr q) = absurd (size-right bytes p.0 q.1 p.2)
kinds-one bytes a b (inr p) (inl q) = absurd (size-right bytes q.0 p.1 q.2)
kinds-one bytes a b (inr p) (inr q) = p.0 ∙ sym q.0

pub first-one : {A : Type 0} (layout : ℕ → Layout A) (bytes : List ℕ) (a b : ImageFault)
    → IsFirstFault layout bytes a → IsFirstFault layout bytes b → a ≡ b
first-one layout bytes a b (inl f) (inl g) = kinds-one bytes a b (outer-kind bytes a f) (outer-kind bytes b g)
first-one layout bytes a b (inl f) (inr g) = absurd (outer-wrong bytes a g.0 f)
first-one layout bytes a b (inr f) (inl g) = absurd (outer-wrong bytes b f.0 g)
first-one layout bytes a b (inr f) (inr g) =
    faults-one (covered bytes) (layout (digested bytes)) 0 a b f.1 g.1
