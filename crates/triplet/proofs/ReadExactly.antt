-- A triplet is read exactly when the bytes begin with it, and refused at a place exactly when they are bad there.
use mathlib.Core.Path.{◌≡◌, refl, sym, ap, ◌∙◌}
use mathlib.Core.Logic.{◌↔◌}
use mathlib.Core.Bool.{Bool, true, false, cond}
use mathlib.Core.List.{List}
use Prim.Native.Nat.{ℕ, ◌+◌, ◌≤◌}
use native.Mathlib.Omega.{arith}
use lib.Dec.{eqb, ltb}
use lib.ListN.{length}
use borrow.Author.Tests.{eqb-true, eqb-false, ltb-true, ltb-false, eq-eqb, ne_eqb, le-ltb}
use Rattle.std.specs.Prelude.{Some, None, Ok, Err}
use Rattle.laws.proofs.LowestLaws.{bool_cases}
use Rattle.number.specs.declared.Order.{Order}
use Rattle.number.specs.Bytes.{number}
use Rattle.number.proofs.NumberLaws.{number_nothing}
use Rattle.refusal.specs.declared.Refusal.{Refusal}
use Rattle.refusal.specs.Order.{refusal}
use Rattle.triplet.specs.declared.Ids.{Ids}
use Rattle.triplet.specs.declared.Triplet.{Triplet}
use Rattle.triplet.specs.Triplet.{Part, Reading, triplet, bad_triplet, largest_part, absent, reserved_bits, part_at, ids, bad_at, on_part, parts_of, triplet_of}
use Rattle.triplet.specs.Words.{PartIs, PartBad, TypeByte, BeginsWith, BadAt, type_byte_bad, id_bad, tile_bad, other_bad, type_of}
use Rattle.triplet.specs.Words.{id_width, tile_width, other_width, tile_place, other_place, end_place}

-- ---- a part

-- a part that is there is read
pub part_reads : (o : Order) (s : List ℕ) (at w v : ℕ) → PartIs o s at w v → part_at o s at w ≡ Some v
unfolding part_at
part_reads o s at w v p =
    bool_cases (eqb w 0)
    (λ t.
    let z : v ≡ absent = sym p.says ∙ ap (number o s at) (eqb-true w 0 t) ∙ number_nothing o s at in
    rw (t, z))
    (λ t. rw (t, le-ltb (length s) (at + w) p.inside, p.says, le-ltb largest_part v p.small))

-- one that is not, is not
data Seen (o : Order) (s : List ℕ) (at w : ℕ) : Part → Type 0 where
  seen : {v : ℕ} → PartIs o s at w v → Seen o s at w (Some v)
  unseen : PartBad o s at w → Seen o s at w None

look : (o : Order) (s : List ℕ) (at w : ℕ) → at ≤ length s → Seen o s at w (part_at o s at w)
unfolding part_at
look o s at w h = go (eqb w 0) (ltb (length s) (at + w)) (ltb largest_part (number o s at w)) refl refl refl
  where
    go : (x y z : Bool) → eqb w 0 ≡ x → ltb (length s) (at + w) ≡ y → ltb largest_part (number o s at w) ≡ z
        → Seen o s at w (cond x (Some absent) (cond y None (cond z None (Some (number o s at w)))))
    go true y z e f g =
        let q = eqb-true w 0 e in
        seen (record { inside = omega arith; says = ap (number o s at) q ∙ number_nothing o s at; small = omega arith })
    go false true z e f g = unseen (λ v p. let l = ltb-true (length s) (at + w) f in omega (arith, p.inside))
    go false false true e f g = unseen (λ v p. let l = ltb-true largest_part (number o s at w) g in omega (arith, p.says, p.small))
    go false false false e f g = seen (record {
      inside = ltb-false (length s)
          (at + w) f;
      says = refl;
      small = ltb-false largest_part (number o s at w) g;
    })

part_bad : (o : Order) (s : List ℕ) (at w : ℕ) → at ≤ length s → PartBad o s at w → part_at o s at w ≡ None
part_bad o s at w h n = go (look o s at w h)
  where
    go : {r : Part} → Seen o s at w r → r ≡ None
    go (seen {v} p) = absurd (n v p)
    go (unseen p) = refl

-- ---- the triplet

-- what the type byte asks for is what is read
parts_next : (o : Order) (s : List ℕ) → TypeByte s → triplet_of o s ≡ parts_of o s (id_width s) (tile_width s) (other_width s)
unfolding triplet_of
parts_next o s b = rw (ne_eqb (length s) 0 (λ e. omega (arith, b.there)), eq-eqb (reserved_bits (type_of s)) 0 b.reserved)

-- the answer beside what it says
data Answer (o : Order) (s : List ℕ) : Reading → Type 0 where
  begins : {u : Ids} {m : ℕ} → BeginsWith o s u m → Answer o s (Ok (triplet u m))
  bad : {p : ℕ} → BadAt o s p → Answer o s (bad_at p)

module _ (o : Order) (s : List ℕ) (b : TypeByte s) where
  on_other : {a c : ℕ} → PartIs o s 1 (id_width s) a → PartIs o s (tile_place s) (tile_width s) c → {r : Part}
      → Seen o s (other_place s) (other_width s) r
      → Answer o s (on_part (other_place s) r (λ d. Ok (triplet (ids a c d) (end_place s))))
  on_other p q (seen r) = begins (record { type_byte = b; id = p; tile = q; other = r; long = refl })
  on_other p q (unseen r) = bad (other_bad b p q r)

  on_tile : {a : ℕ} → PartIs o s 1 (id_width s) a → {r : Part} → Seen o s (tile_place s) (tile_width s) r
      → Answer o s (on_part (tile_place s) r (λ c.
      on_part (other_place s) (part_at o s (other_place s) (other_width s)) (λ d. Ok (triplet (ids a c d) (end_place s)))))
  on_tile p (seen q) = on_other p q (look o s (other_place s) (other_width s) q.inside)
  on_tile p (unseen q) = bad (tile_bad b p q)

  on_id : {r : Part} → Seen o s 1 (id_width s) r
      → Answer o s (on_part 1 r (λ a. on_part (tile_place s) (part_at o s (tile_place s) (tile_width s))
      (λ c. on_part (other_place s) (part_at o s (other_place s) (other_width s)) (λ d. Ok (triplet (ids a c d) (end_place s))))))
  on_id (seen p) = on_tile p (look o s (tile_place s) (tile_width s) p.inside)
  on_id (unseen p) = bad (id_bad b p)

  on_parts : Answer o s (parts_of o s (id_width s) (tile_width s) (other_width s))
  unfolding parts_of
  on_parts = on_id (look o s 1 (id_width s) b.there)

answer : (o : Order) (s : List ℕ) → Answer o s (triplet_of o s)
unfolding triplet_of
answer o s = go (eqb (length s) 0) (eqb (reserved_bits (type_of s)) 0) refl refl
  where
    go : (x y : Bool) → eqb (length s) 0 ≡ x → eqb (reserved_bits (type_of s)) 0 ≡ y
        → Answer o s (cond x (bad_at 0) (cond y (parts_of o s (id_width s) (tile_width s) (other_width s)) (bad_at 0)))
    go true y e f = bad (type_byte_bad (λ b. let q = eqb-true (length s) 0 e in omega (arith, b.there)))
    go false true e f =
        on_parts o s (record { there = (let q = eqb-false (length s) 0 e in omega arith); reserved = eqb-true (reserved_bits (type_of s)) 0 f })
    go false false e f = bad (type_byte_bad (λ b. eqb-false (reserved_bits (type_of s)) 0 f b.reserved))

-- THE TRIPLET IS READ EXACTLY WHEN the bytes begin with it
begins_with : (o : Order) (s : List ℕ) (t : Ids) (n : ℕ) {r : Reading} → Answer o s r → r ≡ Ok (triplet t n) → BeginsWith o s t n
begins_with o s t n (begins {u} {m} h) e =
    let same : triplet u m ≡ triplet t n = cc in
    let x : u ≡ t = ap (λ (r : Triplet). r.ids) same in
    let y : m ≡ n = ap (λ (r : Triplet). r.bytes) same in
    rw (← x, ← y) h
begins_with o s t n (bad h) e = let no : ⊥ = cc in absurd no

is_read : (o : Order) (s : List ℕ) (t : Ids) (n : ℕ) → BeginsWith o s t n → triplet_of o s ≡ Ok (triplet t n)
unfolding parts_of
is_read o s t n h =
    parts_next o s h.type_byte
    ∙ rw (
      part_reads o s 1 (id_width s) t.id h.id,
      part_reads o s (tile_place s) (tile_width s) t.tile h.tile,
      part_reads o s (other_place s) (other_width s) t.other h.other,
      h.long,
    )

pub read_exactly : (o : Order) (s : List ℕ) (t : Ids) (n : ℕ) → (triplet_of o s ≡ Ok (triplet t n)) ↔ BeginsWith o s t n
read_exactly o s t n = (begins_with o s t n (answer o s), is_read o s t n)

-- IT IS REFUSED AT A PLACE EXACTLY WHEN the bytes are bad there, and with 11 always
bad_there : (o : Order) (s : List ℕ) (q : Refusal) {r : Reading} → Answer o s r → r ≡ Err q
    → (q ≡ refusal bad_triplet q.place) × BadAt o s q.place
bad_there o s q (begins h) e = let no : ⊥ = cc in absurd no
bad_there o s q (bad {p} h) e =
    let x : refusal bad_triplet p ≡ q = cc in
    rw (← x) (refl, h)

no_type_byte : (o : Order) (s : List ℕ) → (TypeByte s → ⊥) → {r : Reading} → Answer o s r → r ≡ bad_at 0
no_type_byte o s no_byte (begins h) = absurd (no_byte h.type_byte)
no_type_byte o s no_byte (bad (type_byte_bad h)) = refl
no_type_byte o s no_byte (bad (id_bad b h)) = absurd (no_byte b)
no_type_byte o s no_byte (bad (tile_bad b p h)) = absurd (no_byte b)
no_type_byte o s no_byte (bad (other_bad b p q h)) = absurd (no_byte b)

is_refused : (o : Order) (s : List ℕ) (p : ℕ) → BadAt o s p → triplet_of o s ≡ bad_at p
unfolding parts_of
is_refused o s p (type_byte_bad h) = no_type_byte o s h (answer o s)
is_refused o s p (id_bad b h) = parts_next o s b ∙ rw (part_bad o s 1 (id_width s) b.there h)
is_refused o s p (tile_bad {a} b x h) =
    parts_next o s b ∙ rw (part_reads o s 1 (id_width s) a x, part_bad o s (tile_place s) (tile_width s) x.inside h)
is_refused o s p (other_bad {a} {c} b x y h) =
    parts_next o s b
    ∙ rw (
      part_reads o s 1 (id_width s) a x,
      part_reads o s (tile_place s) (tile_width s) c y,
      part_bad o s (other_place s) (other_width s) y.inside h,
    )

pub refused-exactly : (o : Order) (s : List ℕ) (q : Refusal)
    → (triplet_of o s ≡ Err q) ↔ ((q ≡ refusal bad_triplet q.place) × BadAt o s q.place)
refused-exactly o s q = (bad_there o s q (answer o s), λ h. is_refused o s q.place h.1 ∙ ap Err (sym h.0))
