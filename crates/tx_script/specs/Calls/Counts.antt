-- How often names are used, by the names that are used at all and those that are used more than once.
use Rattle.std.specs.Prelude.{◌≡◌, nat_lt, List, map, option_to_list, count_by}
use Rattle.tx_tree.specs.Words.{same_text}
use Rattle.tx_tree.specs.Tree.{BlockTree}
use Rattle.tx_name_set.specs.NameSet.{is_in}
use Rattle.tx_names.specs.Scope.{Text}
use Rattle.tx_script.specs.Written.{Link}
use Rattle.tx_script.specs.Checks.{head_of, joined_in}

-- of these names, with those that stand more than once
pub record Counts (once twice names : List Text) : Type 0 where
  pub some : (n : Text) → is_in once n ≡ nat_lt 0 (count_by (same_text n) names)
  pub more : (n : Text) → is_in twice n ≡ nat_lt 1 (count_by (same_text n) names)

-- the pipeline that a link names, and the one that a chain begins with
abbrev pub link_names : Link → List Text
link_names x = map (λ w. w.text) (option_to_list (joined_in x.part))

abbrev pub head_names : BlockTree → List Text
head_names b = map (λ w. w.text) (option_to_list (head_of b))
