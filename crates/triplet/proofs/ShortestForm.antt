-- Bytes that are read as a triplet are one of its forms, and none is shorter than the one that is written.
use mathlib.Core.Path.{◌≡◌, sym, ap, ◌∙◌}
use mathlib.Core.List.{List, [], ◌∷◌, append_assoc}
use Prim.Native.Nat.{ℕ, ◌≤◌, ◌<◌}
use native.Mathlib.Omega.{arith}
use lib.ListN.{take, drop}
use lib.Seq.{take-add, drop-cons}
use Rattle.std.specs.Prelude.{Ok}
use Rattle.number.specs.declared.Order.{Order}
use Rattle.number.specs.Bytes.{bytes_of, AreBytes}
use Rattle.number.proofs.NumberLaws.{number_small, bytes_number}
use Rattle.triplet.specs.declared.Ids.{Ids}
use Rattle.triplet.specs.Triplet.{triplet, width_of, id_code, tile_code, other_code, triplet_of}
use Rattle.triplet.specs.Written.{form, size_of}
use Rattle.triplet.specs.Words.{PartIs, Holds, type_of, id_width, tile_width, other_width, tile_place, other_place}
use Rattle.triplet.proofs.CodeLaws.{shortest_least, type_again}
use Rattle.triplet.proofs.ReadExactly.{read_exactly}

-- a part of bytes is held by its code
part_held : (o : Order) (s : List ℕ) (at c v : ℕ) → AreBytes s → c < 4 → PartIs o s at (width_of c) v → Holds c v
part_held o s at c v a l p = record { code = l; fits = rw (← p.says) (number_small o s at (width_of c) a p.inside) }

module _ (o : Order) (s : List ℕ) (t : Ids) (n : ℕ) (a : AreBytes s) (e : triplet_of o s ≡ Ok (triplet t n)) where
  -- THE SHORTEST FORM: no fewer bytes are read as the same triplet
  pub none_shorter : size_of t ≤ n
  unfolding size_of
  none_shorter =
      let h = (read_exactly o s t n).0 e in
      let b = type_of s in
      let x = shortest_least t.id (id_code b) (part_held o s 1 (id_code b) t.id a (omega arith) h.id) in
      let y = shortest_least t.tile (tile_code b) (part_held o s (tile_place s) (tile_code b) t.tile a (omega arith) h.tile) in
      let z = shortest_least t.other (other_code b) (part_held o s (other_place s) (other_code b) t.other a (omega arith) h.other) in
      omega (arith, h.long)

  -- the bytes that are read are the form with the codes of their type byte
  pub reads_a_form : take n s ≡ form o (id_code (type_of s)) (tile_code (type_of s)) (other_code (type_of s)) t
  unfolding form
  reads_a_form =
      let h = (read_exactly o s t n).0 e in
      let b = type_of s in
      let f : take 1 s ≡ b ∷ [] = ap (take 1) (drop-cons s 0 0 h.type_byte.there) in
      let part : (at w v : ℕ) → PartIs o s at w v → take w (drop at s) ≡ bytes_of o w v =
      λ at w v p. sym (bytes_number o s at w a p.inside) ∙ ap (bytes_of o w) p.says in
      ap (λ (k : ℕ). take k s) h.long
      ∙ take-add (other_place s) (other_width s) s
      ∙ rw (
        take-add (tile_place s) (tile_width s) s,
        take-add 1 (id_width s) s,
        f,
        part 1 (id_width s) t.id h.id,
        part (tile_place s) (tile_width s) t.tile h.tile,
        part (other_place s) (other_width s) t.other h.other,
        type_again b (a 0) h.type_byte.reserved,
      )
      (append_assoc (b ∷ bytes_of o (id_width s) t.id) (bytes_of o (tile_width s) t.tile) (bytes_of o (other_width s) t.other))
