-- What a series adds up to: a number for each second from 1 on, of which 0 says that there is nothing to count.
use Rattle.std.specs.Prelude.{◌≡◌, ℕ, zero, suc, ◌+◌, ◌*◌, ◌≤◌, ◌==◌, nat_le, nat_lt, max, min, if◌then◌else◌}
use Rattle.log_sums.specs.declared.figures.Figures.{Figures}
use Rattle.log_sums.specs.declared.long_figures.LongFigures.{LongFigures}

-- the series from this second on; there is nothing to count before it
abbrev pub since : ℕ → (ℕ → ℕ) → ℕ → ℕ
since from f t = if nat_le from t then f t else 0

-- in how many of the seconds 1 to n there is something to count
abbrev pub count_to : (ℕ → ℕ) → ℕ → ℕ
count_to f zero = 0
count_to f (suc n) = count_to f n + (if f (suc n) == 0 then 0 else 1)

-- the sum of the seconds 1 to n
abbrev pub sum_to : (ℕ → ℕ) → ℕ → ℕ
sum_to f zero = 0
sum_to f (suc n) = sum_to f n + f (suc n)

-- the lesser of two numbers where there is something to count in both, and else their sum
abbrev pub lesser : ℕ → ℕ → ℕ
lesser a b = if a == 0 then b else (if b == 0 then a else min a b)

-- the least number of the seconds 1 to n in which there is something to count; 0 where there is none
abbrev pub least_to : (ℕ → ℕ) → ℕ → ℕ
least_to f zero = 0
least_to f (suc n) = lesser (least_to f n) (f (suc n))

-- the greatest number of the seconds 1 to n
abbrev pub most_to : (ℕ → ℕ) → ℕ → ℕ
most_to f zero = 0
most_to f (suc n) = max (most_to f n) (f (suc n))

-- the first of the seconds 1 to n with the greatest number; 0 where there is nothing to count
abbrev pub first_most : (ℕ → ℕ) → ℕ → ℕ
first_most f zero = 0
first_most f (suc n) = if nat_lt (most_to f n) (f (suc n)) then suc n else first_most f n

-- what a series adds up to in the seconds 1 to n
pub record AreFigures (f : ℕ → ℕ) (n : ℕ) (x : Figures) : Type 0 where
  pub count : x.count ≡ count_to f n
  pub sum : x.sum ≡ sum_to f n
  pub least : x.least ≡ least_to f n
  pub most : x.most ≡ most_to f n
  pub at : x.at ≡ first_most f n
  pub few : x.count ≤ n
  pub small : x.sum ≤ n * 4294967296

-- what a series of long numbers adds up to in the seconds 1 to n
pub record AreLongFigures (f : ℕ → ℕ) (n : ℕ) (x : LongFigures) : Type 0 where
  pub count : x.count ≡ count_to f n
  pub sum : x.sum ≡ sum_to f n
  pub least : x.least ≡ least_to f n
  pub most : x.most ≡ most_to f n
  pub few : x.count ≤ n
