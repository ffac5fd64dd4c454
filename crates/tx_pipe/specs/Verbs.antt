-- The words of operators and handlers, and of the classes that handlers name.
use Rattle.std.specs.Prelude.{ℕ, List, [], ◌∷◌, Option, codes}
use Rattle.tx_base.specs.declared.class.Class.{Class}
use Rattle.tx_base.specs.declared.class.Class.TheVariants as class
use Rattle.tx_base.specs.Class.{name_of}
use Rattle.tx_names.specs.Named.{with_word}
use Rattle.tx_pipe.specs.declared.verb.Verb.{Verb}
use Rattle.tx_pipe.specs.declared.verb.Verb.TheVariants as verb

abbrev pub verb_word : Verb → List ℕ
verb_word verb.Csv = codes "csv"
verb_word verb.Map = codes "map"
verb_word verb.Filter = codes "filter"
verb_word verb.WithColumn = codes "withColumn"
verb_word verb.MapColumn = codes "mapColumn"
verb_word verb.SelectColumns = codes "selectColumns"
verb_word verb.RenameColumn = codes "renameColumn"
verb_word verb.Join = codes "join"
verb_word verb.LeftJoin = codes "leftJoin"
verb_word verb.Unique = codes "unique"
verb_word verb.Aggregate = codes "aggregate"
verb_word verb.ToCsv = codes "tocsv"
verb_word verb.Resolve = codes "resolve"
verb_word verb.Ignore = codes "ignore"

-- each of them once
abbrev pub verbs : List Verb
verbs = verb.Csv ∷ verb.Map ∷ verb.Filter ∷ verb.WithColumn ∷ verb.MapColumn ∷ verb.SelectColumns ∷ verb.RenameColumn ∷ verb.Join ∷ verb.LeftJoin ∷ verb.Unique ∷ verb.Aggregate ∷ verb.ToCsv ∷ verb.Resolve ∷ verb.Ignore ∷ []

-- the one that has this word
abbrev pub verb_at : List ℕ → Option Verb
verb_at = with_word verb_word verbs

-- ---- classes

-- each of them once
abbrev pub classes : List Class
classes = class.TypeError ∷ class.ValueError ∷ class.KeyError ∷ class.IndexError ∷ class.ZeroDivisionError ∷ class.OverflowError ∷ class.AttributeError ∷ class.UnboundLocalError ∷ class.UnicodeDecodeError ∷ class.ProfileError ∷ class.RecordError ∷ class.ArithmeticError ∷ class.LookupError ∷ class.NameError ∷ class.Exception ∷ []

-- the one that has this name
abbrev pub class_at : List ℕ → Option Class
class_at = with_word name_of classes
