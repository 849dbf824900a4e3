-- A header as one number of 40 bits: its fields, and the number that they make. Assumes nothing.
use mathlib.Core.Path.{◌≡◌, sym, ap₂, ◌∙◌}
use Prim.Native.Nat.{ℕ, ◌+◌, ◌*◌, ◌/◌, ◌%◌, ◌^◌, ◌<◌}
use native.Mathlib.Nat.{div-one, div-div-eq-div-mul, div-add-mod', div-eq_of_lt}
use native.Mathlib.Omega.{arith}

-- the null frame bit 1, and the other fields as given
abbrev pub word : ℕ → ℕ → ℕ → ℕ → ℕ → ℕ → ℕ
word sync startup number words check cycle = (((4 + sync * 2 + startup) * 2 ^ 11 + number) * 2 ^ 7 + words) * 2 ^ 17 + check * 2 ^ 6 + cycle

-- the fields of x
pub record Fields (x sync startup number words check cycle : ℕ) : Type 0 where
  pub reserved : x / 2 ^ 39 % 2 ^ 1 ≡ 0
  pub preamble : x / 2 ^ 38 % 2 ^ 1 ≡ 0
  pub sent : x / 2 ^ 37 % 2 ^ 1 ≡ 1
  pub synced : x / 2 ^ 36 % 2 ^ 1 ≡ sync
  pub started : x / 2 ^ 35 % 2 ^ 1 ≡ startup
  pub numbered : x / 2 ^ 24 % 2 ^ 11 ≡ number
  pub worded : x / 2 ^ 17 % 2 ^ 7 ≡ words
  pub checked : x / 2 ^ 6 % 2 ^ 11 ≡ check
  pub counted : x / 2 ^ 0 % 2 ^ 6 ≡ cycle

-- what stands above the lowest digit of x / m, to the base c, and that digit
part : (x m c : ℕ) {a : ℕ} → x / m % c ≡ a → x / m ≡ x / (m * c) * c + a
part x m c e = sym (div-add-mod' (x / m) c) ∙ ap₂ (λ (h l : ℕ). h * c + l) (div-div-eq-div-mul x m c) e

-- the digits put together again, with nothing above the null frame bit
joined : (sync startup number words check cycle : ℕ) {x₀ x₆ x₁₇ x₂₄ x₃₅ x₃₆ x₃₇ x₃₈ x₃₉ x₄₀ : ℕ} → x₀ ≡ x₆ * 2 ^ 6 + cycle → x₆ ≡ x₁₇ * 2 ^ 11 + check
    → x₁₇ ≡ x₂₄ * 2 ^ 7 + words → x₂₄ ≡ x₃₅ * 2 ^ 11 + number → x₃₅ ≡ x₃₆ * 2 + startup → x₃₆ ≡ x₃₇ * 2 + sync → x₃₇ ≡ x₃₈ * 2 + 1
    → x₃₈ ≡ x₃₉ * 2 + 0 → x₃₉ ≡ x₄₀ * 2 + 0 → x₄₀ ≡ 0 → x₀ ≡ word sync startup number words check cycle
joined sync startup number words check cycle a b c d e f g h i j = omega arith

module _ (sync startup number words check cycle : ℕ) where
  pub word_lt : sync < 2 → startup < 2 → number < 2 ^ 11 → words < 2 ^ 7 → check < 2 ^ 11 → cycle < 2 ^ 6
      → word sync startup number words check cycle < 256 ^ 5
  word_lt a b c d e f = omega arith

  pub word_fields : sync < 2 → startup < 2 → number < 2 ^ 11 → words < 2 ^ 7 → check < 2 ^ 11 → cycle < 2 ^ 6
      → Fields (word sync startup number words check cycle) sync startup number words check cycle
  word_fields a b c d e f =
      record {
        reserved = omega arith;
        preamble = omega arith;
        sent = omega arith;
        synced = omega arith;
        started = omega arith;
        numbered = omega arith;
        worded = omega arith;
        checked = omega arith;
        counted = omega arith;
      }

  pub fields-word : (x : ℕ) → x < 256 ^ 5 → Fields x sync startup number words check cycle → x ≡ word sync startup number words check cycle
  fields-word x l f =
      sym (div-one x)
      ∙ joined
      sync
      startup
      number
      words
      check
      cycle
      (part x (2 ^ 0) (2 ^ 6) f.counted)
      (part x (2 ^ 6) (2 ^ 11) f.checked)
      (part x (2 ^ 17) (2 ^ 7) f.worded)
      (part x (2 ^ 24) (2 ^ 11) f.numbered)
      (part x (2 ^ 35) 2 f.started)
      (part x (2 ^ 36) 2 f.synced)
      (part x (2 ^ 37) 2 f.sent)
      (part x (2 ^ 38) 2 f.preamble)
      (part x (2 ^ 39) 2 f.reserved)
      (div-eq_of_lt l)
