-- A triplet that was read lies within its bytes, and bytes after it do not matter.
use mathlib.Core.Path.{◌≡◌, sym, ap, ◌∙◌}
use mathlib.Core.List.{List, [], ◌++◌, append-nil}
use Prim.Native.Nat.{ℕ, ◌+◌, ◌≤◌}
use native.Mathlib.Omega.{arith}
use lib.ListN.{length, take, drop, length-append, take-append-drop, get_or-append}
use lib.Seq.{length-take-le, get_or-take}
use Rattle.std.specs.Prelude.{Ok}
use Rattle.number.specs.declared.Order.{Order}
use Rattle.number.specs.Bytes.{number}
use Rattle.number.proofs.NumberLaws.{number_front}
use Rattle.triplet.specs.declared.Ids.{Ids}
use Rattle.triplet.specs.Triplet.{triplet, triplet_of, id_code, tile_code, other_code}
use Rattle.triplet.specs.Words.{PartIs, type_of, id_width, tile_width, other_width, tile_place, other_place}
use Rattle.triplet.proofs.CodeLaws.{width_most}
use Rattle.triplet.proofs.ReadExactly.{read_exactly}

-- WITHIN ITS BYTES, 1 to 13 of them
pub within : (o : Order) (s : List ℕ) (t : Ids) (n : ℕ) → triplet_of o s ≡ Ok (triplet t n) → (n ≤ length s) × (1 ≤ n) × (n ≤ 13)
within o s t n e =
    let h = (read_exactly o s t n).0 e in
    let b = type_of s in (
      omega (arith, h.long, h.other.inside),
      omega (arith, h.long),
      omega (arith, h.long, width_most (id_code b) (omega arith), width_most (tile_code b) (omega arith), width_most (other_code b) (omega arith)),
    )

-- a part within the first n bytes is the same whatever follows them
part_stays : (o : Order) (s ys : List ℕ) (n at w v : ℕ) → n ≤ length s → at + w ≤ n → PartIs o s at w v → PartIs o (take n s ++ ys) at w v
part_stays o s ys n at w v l i p =
    let m : length (take n s) ≡ n = length-take-le n s l in
    let j : at + w ≤ length (take n s) = omega arith in
    record {
      inside = rw (length-append (take n s) ys) (omega arith);
      says =
          number_front o (take n s) ys at w j
          ∙ sym (number_front o (take n s) (drop n s) at w j)
          ∙ ap (λ (l : List ℕ). number o l at w) (take-append-drop n s)
          ∙ p.says;
      small = p.small;
    }

-- BYTES AFTER THE TRIPLET DO NOT MATTER, whatever they are
pub rest_free : (o : Order) (s ys : List ℕ) (t : Ids) (n : ℕ) → triplet_of o s ≡ Ok (triplet t n) → triplet_of o (take n s ++ ys) ≡ Ok (triplet t n)
rest_free o s ys t n e =
    let h = (read_exactly o s t n).0 e in
    let k = within o s t n e in
    let m : length (take n s) ≡ n = length-take-le n s k.0 in
    let b : type_of (take n s ++ ys) ≡ type_of s = get_or-append (take n s) ys 0 0 (omega arith) ∙ get_or-take n s 0 0 (omega arith) in
    (read_exactly o (take n s ++ ys) t n).1
    (record {
      type_byte = record { there = rw (length-append (take n s) ys) (omega arith); reserved = rw b h.type_byte.reserved };
      id = rw b (part_stays o s ys n 1 (id_width s) t.id k.0 (omega (arith, h.long)) h.id);
      tile = rw b (part_stays o s ys n (tile_place s) (tile_width s) t.tile k.0 (omega (arith, h.long)) h.tile);
      other = rw b (part_stays o s ys n (other_place s) (other_width s) t.other k.0 (omega (arith, h.long)) h.other);
      long = rw b h.long;
    })

-- its own bytes alone give it
pub own_bytes : (o : Order) (s : List ℕ) (t : Ids) (n : ℕ) → triplet_of o s ≡ Ok (triplet t n) → triplet_of o (take n s) ≡ Ok (triplet t n)
own_bytes o s t n e = ap (triplet_of o) (sym (append-nil (take n s))) ∙ rest_free o s [] t n e
