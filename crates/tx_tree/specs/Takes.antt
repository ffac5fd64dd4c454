-- How many arguments a built-in function, a method or a walk takes: the least number, and the most where there is one (Python
-- Standard Library, "Built-in Functions" and "Built-in Types", as far as the profile goes).
use Rattle.std.specs.Prelude.{ℕ, Bool, true, false, ◌&&◌, nat_le, Option, Some, None}
use Rattle.tx_tree.specs.declared.function.Method.{Method}
use Rattle.tx_tree.specs.declared.function.Method.TheVariants as method
use Rattle.tx_tree.specs.declared.function.Builtin.{Builtin}
use Rattle.tx_tree.specs.declared.function.Builtin.TheVariants as builtin
use Rattle.tx_tree.specs.declared.function.Walk.{Walk}
use Rattle.tx_tree.specs.declared.function.Walk.TheVariants as walk

pub record Takes : Type 0 where
  pub least : ℕ
  pub most : Option ℕ

abbrev pub exactly : ℕ → Takes
exactly n = record { least = n; most = Some n }

abbrev pub between : ℕ → ℕ → Takes
between n m = record { least = n; most = Some m }

abbrev pub at_least : ℕ → Takes
at_least n = record { least = n; most = None }

abbrev pub is_at_most : ℕ → Option ℕ → Bool
is_at_most n None = true
is_at_most n (Some m) = nat_le n m

-- whether so many arguments are taken
abbrev pub allows : Takes → ℕ → Bool
allows t n = nat_le t.least n && is_at_most n t.most

abbrev pub builtin_takes : Builtin → Takes
builtin_takes builtin.Len = exactly 1
builtin_takes builtin.Int = exactly 1
builtin_takes builtin.Str = exactly 1
builtin_takes builtin.Bool = exactly 1
builtin_takes builtin.Abs = exactly 1
builtin_takes builtin.Min = at_least 1
builtin_takes builtin.Max = at_least 1
builtin_takes builtin.Sum = exactly 1
builtin_takes builtin.Any = exactly 1
builtin_takes builtin.All = exactly 1
builtin_takes builtin.Ord = exactly 1
builtin_takes builtin.List = exactly 1
builtin_takes builtin.Tuple = exactly 1

abbrev pub method_takes : Method → Takes
method_takes method.Lower = exactly 0
method_takes method.Upper = exactly 0
method_takes method.Strip = between 0 1
method_takes method.Lstrip = between 0 1
method_takes method.Rstrip = between 0 1
method_takes method.Split = between 0 1
method_takes method.Replace = exactly 2
method_takes method.Find = exactly 1
method_takes method.Rfind = exactly 1
method_takes method.Index = exactly 1
method_takes method.Count = exactly 1
method_takes method.StartsWith = exactly 1
method_takes method.EndsWith = exactly 1
method_takes method.Join = exactly 1
method_takes method.Zfill = exactly 1
method_takes method.IsDigit = exactly 0
method_takes method.Get = between 1 2

-- a view of a dictionary takes none beside the dictionary
abbrev pub walk_takes : Walk → Takes
walk_takes walk.Range = between 1 3
walk_takes walk.Enumerate = exactly 1
walk_takes walk.Zip = exactly 2
walk_takes walk.Items = exactly 0
walk_takes walk.Keys = exactly 0
walk_takes walk.Values = exactly 0

-- whether a walk is a view of a dictionary, a method; the others are functions
abbrev pub is_view : Walk → Bool
is_view walk.Items = true
is_view walk.Keys = true
is_view walk.Values = true
is_view _ = false
