-- A version's bytes, piece by piece as they are written.
use Rattle.std.proofs.Common.{◌≡◌, ℕ, List, [], ◌∷◌, ◌++◌, append_assoc}
use Rattle.std.specs.List.{flat_map}
use Rattle.pep440_text.specs.Record.{VersionRecord}
use Rattle.pep440_version.specs.Order.{stripped, class_of, pre_key, post_key, absent_first, absent_last}
use Rattle.pep440_version.specs.Order.{local_key, key_of}
use Rattle.pep440_key.specs.Key.{component_bytes, version_bytes}

abbrev written : List (List ℕ) → List ℕ
written components = flat_map component_bytes components

pub written_by_pieces : (old : List ℕ) (v : VersionRecord)
    → (((old ++ written ((v.epoch ∷ []) ∷ stripped v.release ∷ (class_of v ∷ []) ∷ []))
    ++ written (pre_key v.pre ∷ post_key v.post v.most ∷ absent_first v.least ∷ absent_last v.dev ∷ []))
    ++ written (local_key v.local)) ++ 0 ∷ []
    ≡ old ++ version_bytes v
unfolding key_of
written_by_pieces old v = simp append_assoc
