-- How the values of the objects in memory are stored in a proof: each as the tuple of its fields.
use Rattle.std.specs.Prelude.{ℕ, Bool, List, Option, refl}
use Rattle.std.specs.Ordering.{nat_cmp}
use Rattle.std.specs.Coded.{Coded, code_by, coded×, coded_ℕ, coded_bool, coded_list, coded_option}
use Rattle.std.specs.FinMap as map
use Rattle.std.specs.FinSet as set
use Rattle.nfg_io.specs.Calls.{Calls}
use Rattle.nfg_io.specs.Memory.{Paths, FilesInMemory, SinkInMemory}

abbrev bytes_code : Coded (List ℕ)
bytes_code = coded_list coded_ℕ

abbrev pub calls_code : Coded Calls
calls_code =
    code_by (set.FinSet nat_cmp × (ℕ × ℕ)) (coded× (set.code coded_ℕ) (coded× coded_ℕ coded_ℕ))
    (λ calls. (calls.failing, (calls.made, calls.faults)))
    (λ fields. record { failing = fields.0; made = fields.1.0; faults = fields.1.1 })
    (λ _. refl)

-- where a reader of files stands: the open path, the position, and whether it is broken
abbrev Place : Type 0
Place = Option (List ℕ) × (ℕ × Bool)

abbrev place_code : Coded Place
place_code = coded× (coded_option bytes_code) (coded× coded_ℕ coded_bool)

abbrev pub files_code : Coded FilesInMemory
files_code =
    code_by ((Paths × ℕ) × (Place × Calls)) (coded× (coded× (map.code bytes_code bytes_code) coded_ℕ) (coded× place_code calls_code))
    (λ m. ((m.files, m.step), ((m.open_path, (m.position, m.broken)), m.calls)))
    (λ f. record { files = f.0.0; step = f.0.1; open_path = f.1.0.0; position = f.1.0.1.0; broken = f.1.0.1.1; calls = f.1.1 })
    (λ _. refl)

abbrev pub sink_code : Coded SinkInMemory
sink_code =
    code_by ((List ℕ × ℕ) × (ℕ × Calls)) (coded× (coded× bytes_code coded_ℕ) (coded× coded_ℕ calls_code))
    (λ m. ((m.taken, m.step), (m.room, m.calls)))
    (λ f. record { taken = f.0.0; step = f.0.1; room = f.1.0; calls = f.1.1 })
    (λ _. refl)
