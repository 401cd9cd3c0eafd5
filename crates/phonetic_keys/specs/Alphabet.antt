-- Letters by their codes, and the vowels, as the rules of NYSIIS name them (`nysiis`, clause `key`).
use Rattle.std.specs.Prelude.{ℕ, List, Bool, ◌&&◌, nat_le, filter, ◌==◌, ◌||◌}

-- The letters A to Z of a text, of which both keys are made (`soundex`, clause `letter`; `nysiis`).

abbrev pub in_alphabet : ℕ → Bool
in_alphabet b = nat_le 65 b && nat_le b 90

-- the letters A to Z of a text, in their order
abbrev pub letters_of : List ℕ → List ℕ
letters_of text = filter in_alphabet text

abbrev pub A : ℕ
A = 65

abbrev pub C : ℕ
C = 67

abbrev pub D : ℕ
D = 68

abbrev pub E : ℕ
E = 69

abbrev pub F : ℕ
F = 70

abbrev pub G : ℕ
G = 71

abbrev pub H : ℕ
H = 72

abbrev pub I : ℕ
I = 73

abbrev pub K : ℕ
K = 75

abbrev pub M : ℕ
M = 77

abbrev pub N : ℕ
N = 78

abbrev pub O : ℕ
O = 79

abbrev pub P : ℕ
P = 80

abbrev pub Q : ℕ
Q = 81

abbrev pub R : ℕ
R = 82

abbrev pub S : ℕ
S = 83

abbrev pub T : ℕ
T = 84

abbrev pub U : ℕ
U = 85

abbrev pub V : ℕ
V = 86

abbrev pub W : ℕ
W = 87

abbrev pub Y : ℕ
Y = 89

abbrev pub Z : ℕ
Z = 90

abbrev pub in_vowels : ℕ → Bool
in_vowels c = c == A || c == E || c == I || c == O || c == U
