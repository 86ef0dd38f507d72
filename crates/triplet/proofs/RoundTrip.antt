-- The bytes of a triplet are read as it: in the shortest form, in every longer one, and at any place of a row.
use mathlib.Core.Path.{◌≡◌, refl, sym, ap, ◌∙◌}
use mathlib.Core.List.{List, [], ◌∷◌, ◌++◌, append_assoc}
use Prim.Native.Nat.{ℕ, ◌+◌, ◌^◌, ◌≤◌, ◌<◌}
use native.Mathlib.Omega.{arith}
use lib.ListN.{length, take, drop, length-append}
use lib.Seq.{length-take-le, drop_at}
use Rattle.std.specs.Prelude.{Ok}
use Rattle.number.specs.declared.Order.{Order}
use Rattle.number.specs.Bytes.{bytes_of}
use Rattle.number.proofs.NumberLaws.{number_bytes, length_bytes}
use Rattle.triplet.specs.declared.Ids.{Ids}
use Rattle.triplet.specs.Triplet.{triplet, largest_part, width_of, triplet_of}
use Rattle.triplet.specs.Written.{code_for, width_for, type_byte, form, form_size, encoded, size_of, written_of, row_after}
use Rattle.triplet.specs.Words.{PartIs, Holds, SmallParts}
use Rattle.triplet.proofs.CodeLaws.{shortest_holds, type_id, type_tile, type_other, type_reserved}
use Rattle.triplet.proofs.ReadExactly.{read_exactly}
use Rattle.triplet.proofs.WrittenExactly.{written_exactly}

-- a part stands where its bytes stand
part_stands : (o : Order) (xs ys : List ℕ) (at w v : ℕ) → length xs ≡ at → v ≤ largest_part → v < 256 ^ w
    → PartIs o (xs ++ (bytes_of o w v ++ ys)) at w v
part_stands o xs ys at w v e m f =
    record { inside = simp (length-append, length_bytes) (omega arith); says = number_bytes o xs ys at w v e f; small = m }

-- EVERY FORM IS READ: "A longer form than needed is read." Any type byte with bits 1-0 zero whose widths hold the parts
pub form_read : (o : Order) (c₁ c₂ c₃ : ℕ) (t : Ids) (rest : List ℕ) → SmallParts t → Holds c₁ t.id → Holds c₂ t.tile → Holds c₃ t.other
    → triplet_of o (form o c₁ c₂ c₃ t ++ rest) ≡ Ok (triplet t (form_size c₁ c₂ c₃))
unfolding form
form_read o c₁ c₂ c₃ t rest p x y z =
    let b : ℕ = type_byte c₁ c₂ c₃ in
    let w₁ : ℕ = width_of c₁ in
    let w₂ : ℕ = width_of c₂ in
    let w₃ : ℕ = width_of c₃ in
    let u₁ : List ℕ = bytes_of o w₁ t.id in
    let u₂ : List ℕ = bytes_of o w₂ t.tile in
    let u₃ : List ℕ = bytes_of o w₃ t.other in
    let n₁ : length u₁ ≡ w₁ = length_bytes o w₁ t.id in
    let n₂ : length (u₁ ++ u₂) ≡ w₁ + w₂ = length-append u₁ u₂ ∙ omega (arith, length_bytes o w₂ t.tile) in
    let q₁ = type_id c₁ c₂ c₃ x.code y.code z.code in
    let q₂ = type_tile c₁ c₂ c₃ x.code y.code z.code in
    let q₃ = type_other c₁ c₂ c₃ x.code y.code z.code in
    let flat : (b ∷ (u₁ ++ (u₂ ++ u₃))) ++ rest ≡ b ∷ (u₁ ++ (u₂ ++ (u₃ ++ rest))) = simp append_assoc in
    let seam : (b ∷ (u₁ ++ u₂)) ++ (u₃ ++ rest) ≡ b ∷ (u₁ ++ (u₂ ++ (u₃ ++ rest))) = simp append_assoc in
    rw flat
    ((read_exactly o (b ∷ (u₁ ++ (u₂ ++ (u₃ ++ rest)))) t (form_size c₁ c₂ c₃)).1
    (record {
      type_byte = record { there = omega arith; reserved = type_reserved c₁ c₂ c₃ x.code y.code z.code };
      id = rw q₁ (part_stands o (b ∷ []) (u₂ ++ (u₃ ++ rest)) 1 w₁ t.id refl p.id x.fits);
      tile = rw (q₁, q₂) (part_stands o (b ∷ u₁) (u₃ ++ rest) (1 + w₁) w₂ t.tile (omega arith) p.tile y.fits);
      other =
          rw (q₁, q₂, q₃, ← seam) (part_stands o (b ∷ (u₁ ++ u₂)) rest (1 + w₁ + w₂) w₃ t.other (omega arith) p.other z.fits);
      long = rw (q₁, q₂, q₃);
    }))

-- THE ROUND TRIP: what is written is read, in either order, whatever follows
pub round_trip : (o : Order) (t : Ids) (rest : List ℕ) → SmallParts t → triplet_of o (encoded o t ++ rest) ≡ Ok (triplet t (size_of t))
unfolding encoded size_of width_for
round_trip o t rest p =
    form_read o (code_for t.id) (code_for t.tile) (code_for t.other) t rest p
    (shortest_holds t.id p.id) (shortest_holds t.tile p.tile) (shortest_holds t.other p.other)

-- THE ROUND TRIP IN A ROW: read at the place where it was written, the row gives the same triplet in as many bytes
pub row_round_trip : (o : Order) (row : List ℕ) (at : ℕ) (t : Ids) (n : ℕ) → written_of (length row) at t ≡ Ok n
    → triplet_of o (drop at (row_after (Ok n) o row at t)) ≡ Ok (triplet t n)
row_round_trip o row at t n e =
    let f = (written_exactly (length row) at t n).0 e in
    ap (triplet_of o) (drop_at (take at row) (encoded o t ++ drop (at + size_of t) row) at (length-take-le at row f.place))
    ∙ round_trip o t (drop (at + size_of t) row) f.parts
    ∙ ap (λ (k : ℕ). Ok (triplet t k)) (sym f.long)
