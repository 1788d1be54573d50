-- Periods of a list, and the place where a search cuts its needle (the two-way search of Crochemore and Perrin, 1991).
use Rattle.std.specs.Prelude.{◌≡◌, ◌≢◌, ◌⊎◌, ℕ, ◌+◌, ◌-◌, ◌<◌, ◌≤◌, true, List, ℤ, pos, slice_index_or, nat_lt, if◌then◌else◌}
use Rattle.nfg_ops.specs.declared.cut.Cut.{Cut}
use Rattle.nfg_ops.specs.declared.suffix.Suffix.{Suffix}
use Rattle.nfg_ops.specs.declared.suffix.Scan.{Scan}

-- the number at a place of a list
abbrev pub number_at : List ℤ → ℕ → ℤ
number_at xs k = slice_index_or xs k (pos 0)

-- the first m values of x come again after d places
abbrev pub IsPeriod : (ℕ → ℤ) → ℕ → ℕ → Type 0
IsPeriod x m d = (k : ℕ) → k + d < m → x k ≡ x (k + d)

-- the values before place c come again after d places, as far as those lie from c to m
abbrev pub IsRepeat : (ℕ → ℤ) → ℕ → ℕ → ℕ → Type 0
IsRepeat x m c d = (k : ℕ) → k < c → c ≤ k + d → k + d < m → x k ≡ x (k + d)

-- each repeat at place c is a period
abbrev pub IsCritical : (ℕ → ℤ) → ℕ → ℕ → Type 0
IsCritical x m c = (d : ℕ) → 0 < d → IsRepeat x m c d → IsPeriod x m d

-- a critical place, and a shift that no period is below
pub record IsCut (x : ℕ → ℤ) (m : ℕ) (cut : Cut) : Type 0 where
  pub below : cut.critical < m
  pub critical : IsCritical x m cut.critical
  pub some : 0 < cut.shift
  pub within : cut.shift ≤ m
  pub least : (d : ℕ) → 0 < d → d < cut.shift → IsPeriod x m d → ⊥
  -- where the shift is a period, it is more than what lies before the critical place
  pub periodic : cut.is_period ≡ true → IsPeriod x m cut.shift
  pub beyond : cut.is_period ≡ true → cut.critical < cut.shift

-- the values from s on differ first from those from c on by a lesser one, or end first
pub record IsBeaten (lt : ℤ → ℤ → Type 0) (x : ℕ → ℤ) (m s c : ℕ) : Type 0 where
  pub at : ℕ
  pub same : (t : ℕ) → t < at → x (s + t) ≡ x (c + t)
  pub room : c + at < m
  pub ends : (s + at ≡ m) ⊎ ((s + at < m) × lt (x (s + at)) (x (c + at)))

-- by a lesser one before the bound
pub record IsBeatenWithin (lt : ℤ → ℤ → Type 0) (x : ℕ → ℤ) (bound s c : ℕ) : Type 0 where
  pub at : ℕ
  pub same : (t : ℕ) → t < at → x (s + t) ≡ x (c + t)
  pub inside : s + at < bound
  pub less : lt (x (s + at)) (x (c + at))

-- what a scan for the greatest suffix has seen
pub record IsScan (lt : ℤ → ℤ → Type 0) (x : ℕ → ℤ) (m : ℕ) (scan : Scan) : Type 0 where
  pub ordered : scan.place < scan.candidate
  pub within : scan.candidate + scan.offset ≤ m
  pub same : (t : ℕ) → t < scan.offset → x (scan.place + t) ≡ x (scan.candidate + t)
  pub before : (s : ℕ) → s < scan.place → IsBeaten lt x m s scan.place
  pub between : (s : ℕ) → scan.place < s → s < scan.candidate → IsBeatenWithin lt x scan.candidate s scan.place

-- the greatest suffix, and its least period
pub record IsGreatest (lt : ℤ → ℤ → Type 0) (x : ℕ → ℤ) (m : ℕ) (suffix : Suffix) : Type 0 where
  pub greatest : (s : ℕ) → s < m → s ≢ suffix.place → IsBeaten lt x m s suffix.place
  pub some : 0 < suffix.period
  pub within : suffix.place + suffix.period ≤ m
  pub periodic : (k : ℕ) → suffix.place ≤ k → k + suffix.period < m → x k ≡ x (k + suffix.period)
  pub least : (d : ℕ) → 0 < d → d < suffix.period → ((k : ℕ) → suffix.place ≤ k → k + d < m → x k ≡ x (k + d)) → ⊥

-- a suffix that begins at a critical place, with its least period; each period of the list is more than what lies before it
pub record IsCutPlace (x : ℕ → ℤ) (m : ℕ) (suffix : Suffix) : Type 0 where
  pub below : suffix.place < m
  pub critical : IsCritical x m suffix.place
  pub beyond : (d : ℕ) → 0 < d → IsPeriod x m d → suffix.place < d
  pub some : 0 < suffix.period
  pub within : suffix.place + suffix.period ≤ m
  pub periodic : (k : ℕ) → suffix.place ≤ k → k + suffix.period < m → x k ≡ x (k + suffix.period)
  pub least : (d : ℕ) → 0 < d → d < suffix.period → ((k : ℕ) → suffix.place ≤ k → k + d < m → x k ≡ x (k + d)) → ⊥

-- the scan after the candidate turned out greater
abbrev pub next_greatest : Scan → Scan
next_greatest scan =
    if nat_lt scan.offset (scan.candidate - scan.place)
    then record { place = scan.candidate; candidate = scan.candidate + 1; offset = 0 }
    else record {
      place = scan.candidate;
      candidate = scan.candidate + (scan.candidate - scan.place);
      offset = scan.offset - (scan.candidate - scan.place);
    }

-- how much of a needle's front is known to stand a shift later: all but the period, and nothing where it is none
abbrev pub known_then : Cut → ℕ → ℕ
known_then cut width = if cut.is_period then width - cut.shift else 0
