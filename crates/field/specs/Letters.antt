-- The letters of the field types, as bytes.
use Rattle.std.specs.Prelude.{ℕ}

abbrev pub letter_t : ℕ
letter_t = 84

abbrev pub letter_l : ℕ
letter_l = 76

abbrev pub letter_f : ℕ
letter_f = 70

abbrev pub letter_r : ℕ
letter_r = 82

abbrev pub letter_s : ℕ
letter_s = 83

abbrev pub letter_i : ℕ
letter_i = 73

abbrev pub letter_c : ℕ
letter_c = 67

abbrev pub letter_z : ℕ
letter_z = 90

abbrev pub letter_b : ℕ
letter_b = 66

abbrev pub letter_y : ℕ
letter_y = 89

abbrev pub letter_d : ℕ
letter_d = 68

abbrev pub letter_x : ℕ
letter_x = 88

abbrev pub letter_k : ℕ
letter_k = 75
