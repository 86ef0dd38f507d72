-- The laws of numbers in bytes, over the width and the byte order.
use mathlib.Core.Path.{◌≡◌, refl, sym, ap, ap₂, ◌∙◌}
use mathlib.Core.Logic.{by_cases}
use mathlib.Core.List.{List, [], ◌∷◌, ◌++◌, reverse, reverse_aux, reverse-append, reverse-cons, reverse-reverse, append_assoc}
use Prim.Native.Nat.{ℕ, zero, suc, ◌+◌, ◌-◌, ◌*◌, ◌/◌, ◌%◌, ◌^◌, ◌≤◌, ◌<◌}
use native.Mathlib.Omega.{arith}
use native.Mathlib.Nat.{one-mul, mul-add, mul_assoc, mul_comm, div-div-eq-div-mul, pow-suc, zero-add, add-zero, div-add-mod'}
use native.Mathlib.Decide.{dec_lt, dec_le}
use borrow.Author.Tests.{le-leb, lt-leb}
use lib.ListN.{length-reverse, replicate, length, get_or, take, drop, length-append, length-drop, length-take, take-append-drop, get_or-eq_default}
use lib.Seq.{take-suc, take_all, sets, length-sets, take-append-le, drop-append-le, take_at, drop_at, drop-drop, get_or-drop, get_or-take, length-take-le, take-take}
use mir.Syntax.{Width}
use Rattle.std.specs.Int.{byte_at, byte_len, byte_worth, bytes_low_first, sum_through, from_le_bytes, from_be_bytes, to_le_bytes}
use borrow.Rule.Slice.PartMut.{put_mid}
use Rattle.laws.proofs.LentLaws.{stored_run, sets_other}
use Rattle.laws.proofs.PlaceLaws.{drop-take}
use Rattle.number.specs.Bytes.{least_first, digits, in_order, value, bytes_of, number, written, AreBytes}
use Rattle.number.specs.declared.Order.{Order}
use Rattle.number.specs.declared.Order.TheVariants.{Least, Most}

-- ---- bytes and the number that they say
pub length_digits : (w v : ℕ) → length (digits w v) ≡ w
length_digits zero v = refl
length_digits (suc w) v = ap suc (length_digits w (v / 256))

length-in_order : (o : Order) (l : List ℕ) → length (in_order o l) ≡ length l
length-in_order Least l = refl
length-in_order Most l = length-reverse l

pub length_bytes : (o : Order) (w v : ℕ) → length (bytes_of o w v) ≡ w
unfolding bytes_of
length_bytes o w v = length-in_order o (digits w v) ∙ length_digits w v

in_order_twice : (o : Order) (l : List ℕ) → in_order o (in_order o l) ≡ l
in_order_twice Least l = refl
in_order_twice Most l = reverse-reverse l

least_digits : (w v : ℕ) → v < 256 ^ w → least_first (digits w v) ≡ v
least_digits zero v h = omega (arith, h)
least_digits (suc w) v h = rw (least_digits w (v / 256) (omega (arith, h, pow-suc 256 w))) (omega (arith, div-add-mod' v 256))

-- THE ROUND TRIP of bytes: the w bytes that say v say v, in either order and at every width
pub value_bytes : (o : Order) (w v : ℕ) → v < 256 ^ w → value o (bytes_of o w v) ≡ v
unfolding value bytes_of
value_bytes o w v h = ap least_first (in_order_twice o (digits w v)) ∙ least_digits w v h

-- the other way: bytes are the bytes of the number that they say
abbrev AllBytes : List ℕ → Type 0
AllBytes [] = Unit {0}
AllBytes (b ∷ l) = (b < 256) × AllBytes l

all_of : (l : List ℕ) → AreBytes l → AllBytes l
all_of [] h = tt
all_of (b ∷ l) h = (h 0, all_of l (λ k. h (suc k)))

all_append : (l m : List ℕ) → AllBytes l → AllBytes m → AllBytes (l ++ m)
all_append [] m a b = b
all_append (x ∷ l) m a b = (a.0, all_append l m a.1 b)

all_reverse : (l : List ℕ) → AllBytes l → AllBytes (reverse l)
all_reverse [] a = tt
all_reverse (x ∷ l) a = rw (reverse-cons x l) (all_append (reverse l) (x ∷ []) (all_reverse l a.1) (a.0, tt))

all_in_order : (o : Order) (l : List ℕ) → AllBytes l → AllBytes (in_order o l)
all_in_order Least l a = a
all_in_order Most l a = all_reverse l a

least_small : (l : List ℕ) → AllBytes l → least_first l < 256 ^ length l
least_small [] a = omega arith
least_small (b ∷ l) a = omega (arith, a.0, least_small l a.1, pow-suc 256 (length l))

digits_least : (l : List ℕ) → AllBytes l → digits (length l) (least_first l) ≡ l
digits_least [] a = refl
digits_least (b ∷ l) a =
    let m : (b + 256 * least_first l) % 256 ≡ b = omega (arith, a.0) in
    let d : (b + 256 * least_first l) / 256 ≡ least_first l = omega (arith, a.0) in
    rw (m, d, digits_least l a.1)

pub value_small : (o : Order) (l : List ℕ) → AreBytes l → value o l < 256 ^ length l
unfolding value
value_small o l h = rw (← length-in_order o l) (least_small (in_order o l) (all_in_order o l (all_of l h)))

pub bytes_value : (o : Order) (l : List ℕ) → AreBytes l → bytes_of o (length l) (value o l) ≡ l
unfolding value bytes_of
bytes_value o l h =
    ap (λ (n : ℕ). in_order o (digits n (least_first (in_order o l)))) (sym (length-in_order o l))
    ∙ ap (in_order o) (digits_least (in_order o l) (all_in_order o l (all_of l h)))
    ∙ in_order_twice o l

-- ---- a number at a place
pub number_inside : (o : Order) (s : List ℕ) (at w : ℕ) → at + w ≤ length s → number o s at w ≡ value o (take w (drop at s))
unfolding number
number_inside o s at w h = rw (le-leb (at + w) (length s) h)

pub number_outside : (o : Order) (s : List ℕ) (at w : ℕ) → length s < at + w → number o s at w ≡ 0
unfolding number
number_outside o s at w h = rw (lt-leb (at + w) (length s) h)

pub written_inside : (o : Order) (s : List ℕ) (at w v : ℕ) → at + w ≤ length s
    → written o s at w v ≡ take at s ++ (bytes_of o w v ++ drop (at + w) s)
unfolding written
written_inside o s at w v h = rw (le-leb (at + w) (length s) h)

pub written_outside : (o : Order) (s : List ℕ) (at w v : ℕ) → length s < at + w → written o s at w v ≡ s
unfolding written
written_outside o s at w v h = rw (lt-leb (at + w) (length s) h)

-- no bytes: they say 0 and nothing is written
value_nothing : (o : Order) → value o [] ≡ 0
unfolding value
value_nothing Least = refl
value_nothing Most = refl

pub number_nothing : (o : Order) (s : List ℕ) (at : ℕ) → number o s at 0 ≡ 0
number_nothing o s at =
    by_cases (dec_le (at + 0) (length s)) (λ h. number_inside o s at 0 h ∙ value_nothing o) (λ h. number_outside o s at 0 (omega arith))

pub written_nothing : (o : Order) (s : List ℕ) (at v : ℕ) → written o s at 0 v ≡ s
written_nothing o s at v =
    by_cases (dec_le (at + 0) (length s))
    (λ h.
    written_inside o s at 0 v h
    ∙ ap (λ (l : List ℕ). take at s ++ (l ++ drop (at + 0) s)) (length_0 (bytes_of o 0 v) (length_bytes o 0 v))
    ∙ rw (add-zero at) (take-append-drop at s))
    (λ h. written_outside o s at 0 v (omega arith))
  where
    length_0 : (l : List ℕ) → length l ≡ 0 → l ≡ []
    length_0 [] e = refl
    length_0 (x ∷ l) e = absurd (omega arith)

-- what storing the bytes one after the other writes
write_by : (o : Order) (s : List ℕ) (at w v : ℕ) → at + w ≤ length s → sets s at (bytes_of o w v) ≡ written o s at w v
write_by o s at w v h =
    let n = length_bytes o w v in
    stored_run (bytes_of o w v) s at (omega arith)
    ∙ ap (λ (k : ℕ). take at s ++ (bytes_of o w v ++ drop (at + k) s)) n
    ∙ sym (written_inside o s at w v h)

-- the same of bytes that are known to be the digits, put in the place of a part of s
pub written_as : (o : Order) (s : List ℕ) (at w v : ℕ) {l : List ℕ} → l ≡ bytes_of o w v → at + w ≤ length s
    → put_mid at (at + w - at) s l ≡ written o s at w v
written_as o s at w v {l} e h =
    let k : at + w - at ≡ w = omega arith in
    ap (λ (n : ℕ). take at s ++ (l ++ drop n (drop at s))) k
    ∙ ap (λ (m : List ℕ). take at s ++ (m ++ drop w (drop at s))) e
    ∙ ap (λ (m : List ℕ). take at s ++ (bytes_of o w v ++ m)) (drop-drop w at s)
    ∙ sym (written_inside o s at w v h)

-- a part of bytes is bytes
bytes_part : (s : List ℕ) (at w : ℕ) → AreBytes s → AreBytes (take w (drop at s))
bytes_part s at w a k =
    by_cases (dec_lt k w)
    (λ l. rw (get_or-take w (drop at s) k 0 l, get_or-drop at s k 0) (a (at + k)))
    (λ l. rw (get_or-eq_default (take w (drop at s)) 0 {n = k} (rw (length-take w (drop at s)) (omega arith))) (omega arith))

length_part : (s : List ℕ) (at w : ℕ) → at + w ≤ length s → length (take w (drop at s)) ≡ w
length_part s at w h = length-take-le w (drop at s) (rw (length-drop at s) (omega arith))

-- a number is below 256 to the power of its width, and its bytes are those that stand there
pub number_small : (o : Order) (s : List ℕ) (at w : ℕ) → AreBytes s → at + w ≤ length s → number o s at w < 256 ^ w
number_small o s at w a h = rw (number_inside o s at w h)
    (rw (length_part s at w h) at (value_small o (take w (drop at s)) (bytes_part s at w a)))

pub bytes_number : (o : Order) (s : List ℕ) (at w : ℕ) → AreBytes s → at + w ≤ length s → bytes_of o w (number o s at w) ≡ take w (drop at s)
bytes_number o s at w a h =
    ap (bytes_of o w) (number_inside o s at w h)
    ∙ ap (λ (k : ℕ). bytes_of o k (value o (take w (drop at s)))) (sym (length_part s at w h))
    ∙ bytes_value o (take w (drop at s)) (bytes_part s at w a)

-- bytes after those that the number needs do not matter
pub number_front : (o : Order) (xs ys : List ℕ) (at w : ℕ) → at + w ≤ length xs → number o (xs ++ ys) at w ≡ number o xs at w
number_front o xs ys at w h =
    let n : at ≤ length xs = omega arith in
    let m : w ≤ length (drop at xs) = rw (length-drop at xs) (omega arith) in
    number_inside o (xs ++ ys) at w (rw (length-append xs ys) (omega arith))
    ∙ ap (λ (l : List ℕ). value o (take w l)) (drop-append-le at xs ys n)
    ∙ ap (value o) (take-append-le w (drop at xs) ys m)
    ∙ sym (number_inside o xs at w h)

-- THE ROUND TRIP in a text: the bytes of v, wherever they stand, are read as v
pub number_bytes : (o : Order) (xs ys : List ℕ) (at w v : ℕ) → length xs ≡ at → v < 256 ^ w → number o (xs ++ (bytes_of o w v ++ ys)) at w ≡ v
number_bytes o xs ys at w v e h =
    number_inside o (xs ++ (bytes_of o w v ++ ys)) at w (simp (length-append, length_bytes) (omega arith))
    ∙ ap (λ (l : List ℕ). value o (take w l)) (drop_at xs (bytes_of o w v ++ ys) at e)
    ∙ ap (value o) (take_at (bytes_of o w v) ys w (length_bytes o w v))
    ∙ value_bytes o w v h

-- numbers written one after the other: behind a front that is written comes the next, and the rest of s stays
pub written_next : (o : Order) (done s : List ℕ) (at w v : ℕ) → length done ≡ at → at + w ≤ length s
    → written o (done ++ drop at s) at w v ≡ (done ++ bytes_of o w v) ++ drop (at + w) s
written_next o done s at w v e h =
    written_inside o (done ++ drop at s) at w v (simp (length-append, length-drop) (omega arith))
    ∙ ap (λ (l : List ℕ). l ++ (bytes_of o w v ++ drop (at + w) (done ++ drop at s))) (take_at done (drop at s) at e)
    ∙ ap (λ (l : List ℕ). done ++ (bytes_of o w v ++ l))
    (sym (drop-drop w at (done ++ drop at s)) ∙ ap (drop w) (drop_at done (drop at s) at e) ∙ drop-drop w at s)
    ∙ sym (append_assoc done (bytes_of o w v) (drop (at + w) s))

-- THE ROUND TRIP: what was written is read, in either order and at every width
pub number-written : (o : Order) (s : List ℕ) (at w v : ℕ) → at + w ≤ length s → v < 256 ^ w → number o (written o s at w v) at w ≡ v
number-written o s at w v h l =
    ap (λ (k : List ℕ). number o k at w) (written_inside o s at w v h)
    ∙ number_bytes o (take at s) (drop (at + w) s) at w v (length-take-le at s (omega arith)) l

pub length-written : (o : Order) (s : List ℕ) (at w v : ℕ) → length (written o s at w v) ≡ length s
length-written o s at w v =
    by_cases (dec_le (at + w) (length s))
    (λ h. ap length (sym (write_by o s at w v h)) ∙ length-sets s at (bytes_of o w v))
    (λ h. ap length (written_outside o s at w v (omega arith)))

-- A WRITE CHANGES NO OTHER BYTE
pub written_other : (o : Order) (s : List ℕ) (at w v j : ℕ) → (at ≤ j → j < at + w → ⊥) → get_or (written o s at w v) j 0 ≡ get_or s j 0
written_other o s at w v j out =
    by_cases (dec_le (at + w) (length s))
    (λ h. ap (λ (l : List ℕ). get_or l j 0) (sym (write_by o s at w v h)) ∙ sets_other (bytes_of o w v) s at j (rw (length_bytes o w v) out))
    (λ h. ap (λ (l : List ℕ). get_or l j 0) (written_outside o s at w v (omega arith)))

-- ---- std's bytes and numbers
worth : (i b : ℕ) → byte_worth i b ≡ b * 256 ^ i
worth zero b = omega arith
worth (suc i) b = refl

byte : (i v : ℕ) → byte_at i v ≡ v / 256 ^ i % 256
byte zero v = omega arith
byte (suc i) v = refl

least_append : (l m : List ℕ) → least_first (l ++ m) ≡ least_first l + 256 ^ length l * least_first m
least_append [] m = omega arith
least_append (b ∷ l) m =
    rw (least_append l m, pow-suc 256 (length l), mul_comm (256 ^ length l) 256, mul_assoc 256 (256 ^ length l) (least_first m)) (omega arith)

-- one byte more
least_more : (l : List ℕ) (k : ℕ) → k < length l → least_first (take k l) + byte_worth k (get_or l k 0) ≡ least_first (take (suc k) l)
least_more l k h =
    ap (λ (n : ℕ). least_first (take k l) + n) (worth k (get_or l k 0) ∙ mul_comm (get_or l k 0) (256 ^ k))
    ∙ ap (λ (n : ℕ). least_first (take k l) + 256 ^ n * get_or l k 0) (sym (length-take-le k l (omega arith)))
    ∙ ap (λ (n : ℕ). least_first (take k l) + 256 ^ length (take k l) * n) (sym (add-zero (get_or l k 0)))
    ∙ sym (least_append (take k l) (get_or l k 0 ∷ []))
    ∙ ap least_first (sym (take-suc l k 0 h))

-- k + 1 bytes as std adds them
sum_least : (l : List ℕ) (k : ℕ) → k < length l → sum_through (λ i. byte_worth i (get_or l i 0)) k ≡ least_first (take (suc k) l)
sum_least l zero h = sym (zero-add (get_or l 0 0)) ∙ least_more l 0 h
sum_least l (suc k) h =
    ap (λ (n : ℕ). n + byte_worth (suc k) (get_or l (suc k) 0)) (sum_least l k (omega arith)) ∙ least_more l (suc k) h

pub from_least : (w : Width) (l : List ℕ) → 0 < byte_len w → length l ≡ byte_len w → from_le_bytes w l ≡ least_first l
from_least w l p e =
    let s : suc (byte_len w - 1) ≡ byte_len w = omega arith in
    sum_least l (byte_len w - 1) (omega arith)
    ∙ ap (λ (k : ℕ). least_first (take k l)) (s ∙ sym e)
    ∙ ap least_first (take_all (length l) l (omega arith))

-- the same of the most significant first: of k + 1 bytes, the first is worth 256 to the power of those after it
sum_most : (l : List ℕ) (m k : ℕ) → k ≤ m → k < length l
    → sum_through (λ i. byte_worth (m - i) (get_or l i 0)) k ≡ 256 ^ (m - k) * least_first (reverse (take (suc k) l))
sum_most l m zero b h =
    let z : m - 0 ≡ m = omega arith in
    rw (z, take-suc l 0 0 h)
    (worth m (get_or l 0 0) ∙ mul_comm (get_or l 0 0) (256 ^ m) ∙ ap (λ (n : ℕ). 256 ^ m * n) (sym (add-zero (get_or l 0 0))))
sum_most l m (suc k) b h =
    let q = 256 ^ (m - suc k) in
    let x = get_or l (suc k) 0 in
    let more = least_first (reverse (take (suc k) l)) in
    let s : m - k ≡ suc (m - suc k) = omega arith in
    ap (λ (n : ℕ). n + byte_worth (m - suc k) x) (sum_most l m k (omega arith) (omega arith))
    ∙ ap (λ (n : ℕ). 256 ^ n * more + byte_worth (m - suc k) x) s
    ∙ ap₂ (λ (n j : ℕ). n * more + j) (pow-suc 256 (m - suc k)) (worth (m - suc k) x)
    ∙ shifted q x more
    ∙ ap (λ (r : List ℕ). q * least_first r)
    (sym (reverse-append (take (suc k) l) (x ∷ [])) ∙ ap reverse (sym (take-suc l (suc k) 0 h)))
  where
    shifted : (q x r : ℕ) → q * 256 * r + x * q ≡ q * (x + 256 * r)
    shifted q x r = omega (arith, mul-add q x (256 * r), mul_assoc q 256 r, mul_comm x q)

low_first : (k i v : ℕ) → bytes_low_first i k v ≡ digits k (v / 256 ^ i)
low_first zero i v = refl
low_first (suc k) i v = rw (byte i v, low_first k (suc i) v, div-div-eq-div-mul v (256 ^ i) 256, pow-suc 256 i)

pub to_digits : (w : Width) (v : ℕ) → to_le_bytes w v ≡ digits (byte_len w) v
to_digits w v = low_first (byte_len w) 0 v ∙ ap (digits (byte_len w)) (omega arith)

-- what the bytes at a place say, from that part of s as std gives it
pub number_part : (o : Order) (s : List ℕ) (at w : ℕ) {part : List ℕ} → at + w ≤ length s → part ≡ take (at + w - at) (drop at s)
    → least_first (in_order o (take w part)) ≡ number o s at w
unfolding value
number_part o s at w h e =
    let k : at + w - at ≡ w = omega arith in
    ap (λ (l : List ℕ). least_first (in_order o (take w l))) (e ∙ ap (λ (n : ℕ). take n (drop at s)) k)
    ∙ ap (λ (l : List ℕ). least_first (in_order o l)) (take-take w w (drop at s) (omega arith))
    ∙ sym (number_inside o s at w h)

-- a number inside the m bytes at a place is the one that stands so much further on
pub number_within : (o : Order) (s : List ℕ) (at m k w : ℕ) → at + m ≤ length s → k + w ≤ m
    → number o (take m (drop at s)) k w ≡ number o s (at + k) w
unfolding value
number_within o s at m k w h l =
    let d = length-drop at s in
    let n = length-take-le m (drop at s) (omega (arith, d)) in
    number_inside o (take m (drop at s)) k w (omega (arith, n))
    ∙ ap (λ (x : List ℕ). least_first (in_order o (take w x))) (drop-take k m (drop at s))
    ∙ ap (λ (x : List ℕ). least_first (in_order o x)) (take-take w (m - k) (drop k (drop at s)) (omega arith))
    ∙ ap (λ (x : List ℕ). least_first (in_order o (take w x))) (drop-drop k at s)
    ∙ sym (number_inside o s (at + k) w (omega arith))

pub from_most : (w : Width) (l : List ℕ) → 0 < byte_len w → length l ≡ byte_len w → from_be_bytes w l ≡ least_first (reverse l)
from_most w l p e =
    let m = byte_len w - 1 in
    let s : suc m ≡ byte_len w = omega arith in
    let z : m - m ≡ 0 = omega arith in
    sum_most l m m (omega arith) (omega arith)
    ∙ ap (λ (n : ℕ). 256 ^ n * least_first (reverse (take (suc m) l))) z
    ∙ one-mul (least_first (reverse (take (suc m) l)))
    ∙ ap (λ (k : ℕ). least_first (reverse (take k l))) (s ∙ sym e)
    ∙ ap (λ (r : List ℕ). least_first (reverse r)) (take_all (length l) l (omega arith))

-- zeros say 0
least_zeros : (o : Order) (n : ℕ) → least_first (in_order o (replicate n 0)) ≡ 0
least_zeros Least zero = refl
least_zeros Least (suc n) = rw (least_zeros Least n) refl
least_zeros Most n = go n [] refl
  where
    go : (n : ℕ) (r : List ℕ) → least_first r ≡ 0 → least_first (reverse_aux (replicate n 0) r) ≡ 0
    go zero r h = h
    go (suc n) r h = go n (0 ∷ r) (rw h refl)

-- a place of too few bytes
pub zeros_outside : (o : Order) (s : List ℕ) (at w : ℕ) → length s < at + w → least_first (in_order o (replicate w 0)) ≡ number o s at w
zeros_outside o s at w h = least_zeros o w ∙ sym (number_outside o s at w h)
