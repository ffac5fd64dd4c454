-- The checks of a script. Each gives its fault at its first place, where it fails; the first check that fails, in the order of
-- `refusal`, is the refusal.
use Rattle.std.specs.Prelude.{ℕ, ◌+◌, Bool, true, false, not, ◌&&◌, ◌||◌, ◌==◌, nat_lt, List, [], ◌∷◌, ◌++◌, map, length, take, Option, Some, None, is_some, option_map, option_to_list, slice_get, find, filter_map, count_by, chars, codes, Result, Ok, Err}
use Rattle.std.specs.List.{flat_map}
use Rattle.std.specs.Str.Lossy.{utf8_valid_len}
use Rattle.tx_tokens.specs.declared.token.Token.{Token}
use Rattle.tx_tokens.specs.declared.token.TokenError.{TokenError}
use Rattle.tx_tokens.specs.declared.token.TokenError.TheVariants as token
use Rattle.tx_tokens.specs.Lines.{line_feed}
use Rattle.tx_tokens.specs.Tokens.{Tokens, tokens_of, most_characters}
use Rattle.tx_tree.specs.declared.target.Word.{Word}
use Rattle.tx_tree.specs.Words.{same_text}
use Rattle.tx_tree.specs.Tree.{BlockTree, define, pipeline, alone}
use Rattle.tx_parse.specs.Spans.{blocks_of}
use Rattle.tx_name_set.specs.NameSet.{is_in}
use Rattle.tx_names.specs.Scope.{Text}
use Rattle.tx_names.specs.Faults.{first_some}
use Rattle.tx_pipe.specs.Pipe.{Operation, join, left_join, Handling, allows, source_file, output_file}
use Rattle.tx_pipe.specs.Lawful.{most_operators}
use Rattle.tx_script.specs.declared.fault.ScriptFault.{ScriptFault}
use Rattle.tx_script.specs.declared.fault.ScriptKind.TheVariants as kind
use Rattle.tx_script.specs.Written.{Code, Part, operator, handler, Link, Entry}
use Rattle.tx_script.specs.Forms.{Place, places_of, entry_of, start_of}
use Rattle.tx_script.specs.Linked.{at, linked_script}

-- a fault, where the condition holds
abbrev pub when : Bool → ScriptFault → Option ScriptFault
when true f = Some f
when false f = None

-- the first that there is
abbrev pub first_of : List (Option ScriptFault) → Option ScriptFault
first_of [] = None
first_of (o ∷ os) = first_some o (first_of os)

-- ---- the text: its size, its encoding, its tokens

-- the most bytes of a script are as many as a text may have characters
abbrev pub too_long : List ℕ → Option ScriptFault
too_long bytes = when (nat_lt most_characters (length bytes)) (at kind.TooLong 0)

-- the first byte that is no part of a character stands behind the longest front that is UTF-8; a line begins behind each line feed
abbrev pub line_of_place : ℕ → List ℕ → ℕ
line_of_place place bytes = count_by (λ b. b == line_feed) (take place bytes) + 1

abbrev pub not_text : List ℕ → Option ScriptFault
not_text bytes = when (nat_lt (utf8_valid_len bytes) (length bytes)) (at kind.NotText (line_of_place (utf8_valid_len bytes) bytes))

abbrev pub fault_of_token : TokenError → Option ScriptFault
fault_of_token (token.BadToken line) = Some (at kind.Token line)
fault_of_token (token.BadIndent line) = Some (at kind.Indent line)
fault_of_token (token.WidthPast line) = Some (at kind.Width line)
fault_of_token token.NoMemory = None

abbrev pub fault_in_tokens : Tokens → Option ScriptFault
fault_in_tokens (Ok ts) = None
fault_in_tokens (Err e) = fault_of_token e

abbrev pub token_fault : List ℕ → Option ScriptFault
token_fault bytes = fault_in_tokens (tokens_of (chars bytes))

-- ---- the blocks of a text, where these checks hold

abbrev pub text_fault : List ℕ → Option ScriptFault
text_fault bytes = first_of (too_long bytes ∷ not_text bytes ∷ token_fault bytes ∷ [])

abbrev pub tokens_unless : Option ScriptFault → Tokens → List Token
tokens_unless None (Ok ts) = ts
tokens_unless _ _ = []

abbrev pub blocks_in : List ℕ → List (List Token)
blocks_in bytes = blocks_of (tokens_unless (text_fault bytes) (tokens_of (chars bytes)))

-- ---- forms and numbers

abbrev pub places_in : List BlockTree → List Place
places_in = flat_map places_of

abbrev pub without_form : Place → Bool
without_form p = not (is_some p.1)

-- a word that with its arguments is no operator and no handler
abbrev pub operator_fault : List BlockTree → Option ScriptFault
operator_fault bs = option_map (λ p. at kind.Operator p.0) (find without_form (places_in bs))

-- the operator or handler by which there are more than 64
abbrev pub too_many_operators : List BlockTree → Option ScriptFault
too_many_operators bs = option_map (λ p. at kind.TooManyOperators p.0) (slice_get (places_in bs) most_operators)

abbrev pub most_defs : ℕ
most_defs = 64

abbrev pub def_line : BlockTree → Option ℕ
def_line (define l n params comma b) = Some l
def_line _ = None

-- the def by which there are more than 64
abbrev pub too_many_defs : List BlockTree → Option ScriptFault
too_many_defs bs = option_map (λ line. at kind.TooManyDefs line) (slice_get (filter_map def_line bs) most_defs)

-- ---- names

abbrev pub fault_in : {A : Type 0} → Result A ScriptFault → Option ScriptFault
fault_in (Ok x) = None
fault_in (Err f) = Some f

abbrev pub name_fault : List Entry → Option ScriptFault
name_fault es = fault_in (linked_script es)

-- ---- places of handlers

-- behind an operator that allows it, if there is one
abbrev pub may_stand : Option (Operation Code Word) → Handling Code → Bool
may_stand None h = false
may_stand (Some op) h = allows op h

-- the operator that the next handler would belong to
abbrev pub owner : Option (Operation Code Word) → Part → Option (Operation Code Word)
owner op (operator next) = Some next
owner op (handler h) = op

abbrev pub is_stray : Option (Operation Code Word) → Part → Bool
is_stray op (operator next) = false
is_stray op (handler h) = not (may_stand op h)

-- the first handler of a chain that may not stand where it stands, behind this operator
abbrev pub stray_handler : Option (Operation Code Word) → List Link → Option ScriptFault
stray_handler op [] = None
stray_handler op (x ∷ xs) = first_some (when (is_stray op x.part) (at kind.HandlerPlace x.line)) (stray_handler (owner op x.part) xs)

abbrev pub handler_place : List Entry → Option ScriptFault
handler_place [] = None
handler_place (e ∷ es) = first_some (stray_handler None e.links) (handler_place es)

-- ---- uses of pipelines

-- the pipeline that a link names
abbrev pub right_of : Operation Code Word → Option Word
right_of (join p l r) = Some p
right_of (left_join p l r) = Some p
right_of _ = None

abbrev pub joined_in : Part → Option Word
joined_in (operator op) = right_of op
joined_in (handler h) = None

-- those that a block's chain names, at its head or in a join
abbrev pub head_of : BlockTree → Option Word
head_of (define l n params comma b) = None
head_of (pipeline l n c) = start_of c
head_of (alone c) = start_of c

abbrev pub names_in : Entry → List Text
names_in e = map (λ w. w.text) (option_to_list (head_of e.block) ++ filter_map (λ x. joined_in x.part) e.links)

-- how often blocks use a name
abbrev pub uses : Text → List Entry → ℕ
uses n es = count_by (same_text n) (flat_map names_in es)

-- a pipeline that the blocks behind it use not exactly once
abbrev pub misused : BlockTree → List Entry → Option ScriptFault
misused (pipeline l n c) behind = when (not (uses n behind == 1)) (at kind.PipeUse l)
misused _ behind = None

abbrev pub pipe_use : List Entry → Option ScriptFault
pipe_use [] = None
pipe_use (e ∷ es) = first_some (misused e.block es) (pipe_use es)

-- ---- the end

abbrev pub writes : Part → Bool
writes (operator op) = is_some (output_file op)
writes (handler h) = false

-- the first link that writes
abbrev pub end_in : List Link → Option ScriptFault
end_in [] = None
end_in (x ∷ xs) = first_some (when (writes x.part) (at kind.NoEnd x.line)) (end_in xs)

-- whether the last link of a chain writes
abbrev pub ends_in_output : List Link → Bool
ends_in_output [] = false
ends_in_output (x ∷ []) = writes x.part
ends_in_output (x ∷ y ∷ xs) = ends_in_output (y ∷ xs)

-- the first link that writes ahead of the last one
abbrev pub end_ahead : List Link → Option ScriptFault
end_ahead [] = None
end_ahead (x ∷ []) = None
end_ahead (x ∷ y ∷ xs) = first_some (when (writes x.part) (at kind.NoEnd x.line)) (end_ahead (y ∷ xs))

abbrev pub line_of : BlockTree → ℕ
line_of (define l n params comma b) = l
line_of (pipeline l n c) = l
line_of (alone c) = c.line

abbrev pub is_unnamed : BlockTree → Bool
is_unnamed (alone c) = true
is_unnamed _ = false

-- the last block is an unnamed chain that ends in an output, and has no other
abbrev pub last_fault : Entry → Option ScriptFault
last_fault e = first_some (when (not (is_unnamed e.block && ends_in_output e.links)) (at kind.NoEnd (line_of e.block))) (end_ahead e.links)

-- a block that is not the last is no unnamed chain, and has no output
abbrev pub inner_fault : Entry → Option ScriptFault
inner_fault e = first_some (when (is_unnamed e.block) (at kind.NoEnd (line_of e.block))) (end_in e.links)

abbrev pub no_end : List Entry → Option ScriptFault
no_end [] = Some (at kind.NoEnd 0)
no_end (e ∷ []) = last_fault e
no_end (e ∷ f ∷ es) = first_some (inner_fault e) (no_end (f ∷ es))

-- ---- files

-- the report of an output has its name with this behind it
abbrev pub report_suffix : List ℕ
report_suffix = codes ".exceptions.csv"

abbrev pub source_in : Part → Option Text
source_in (operator op) = source_file op
source_in (handler h) = None

abbrev pub output_in : Part → Option Text
output_in (operator op) = output_file op
output_in (handler h) = None

-- the files that a script reads: itself and its inputs
abbrev pub files_read : Text → List Link → List Text
files_read own links = own ∷ filter_map (λ x. source_in x.part) links

-- an output that has one of these names, or whose report has
abbrev pub overwrites : List Text → Text → Bool
overwrites files o = is_in files o || is_in files (o ++ report_suffix)

abbrev pub overwrites_by : List Text → Option Text → Bool
overwrites_by files None = false
overwrites_by files (Some o) = overwrites files o

abbrev pub overwriting : List Text → List Link → Option ScriptFault
overwriting files [] = None
overwriting files (x ∷ xs) = first_some (when (overwrites_by files (output_in x.part)) (at kind.OutputIsInput x.line)) (overwriting files xs)

abbrev pub output_is_input : Text → List Entry → Option ScriptFault
output_is_input own es = overwriting (files_read own (flat_map (λ e. e.links) es)) (flat_map (λ e. e.links) es)

-- ---- all of them, in their order; `unread` is why the block behind these ones is none, if so

abbrev pub entries : List BlockTree → List Entry
entries = map entry_of

abbrev pub refusal : Text → List ℕ → List BlockTree → Option ScriptFault → Option ScriptFault
refusal own bytes blocks unread = first_of
    (too_long bytes
    ∷ not_text bytes
    ∷ token_fault bytes
    ∷ unread
    ∷ operator_fault blocks
    ∷ too_many_operators blocks
    ∷ too_many_defs blocks
    ∷ name_fault (entries blocks)
    ∷ handler_place (entries blocks)
    ∷ pipe_use (entries blocks)
    ∷ no_end (entries blocks)
    ∷ output_is_input own (entries blocks)
    ∷ [])
