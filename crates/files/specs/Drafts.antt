-- A file as the code drafts it from values: the beginning, and behind it the rest where n and m are such that it can be read. Definitions alone.
use Rattle.std.specs.Prelude.{ℕ, cond, List, [], ◌++◌, ltb}
use Rattle.files.specs.declared.beginnings.Beginning.{Beginning}
use Rattle.files.specs.Beginnings.{beginning_bytes}

-- an n over 4 or an m over its most is refused in the header, before anything behind it is read
unfoldable pub draft_bytes : ℕ → Beginning → List ℕ → List ℕ
draft_bytes most b rest = beginning_bytes b ++ cond (ltb 4 b.n) [] (cond (ltb most b.m) [] rest)
