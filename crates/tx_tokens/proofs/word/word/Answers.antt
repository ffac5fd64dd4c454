use Rattle.std.proofs.Common.{◌≡◌, ◌∙◌, ap}
use Rattle.std.specs.List.{prefix_len}
use Rattle.tx_tokens.specs.Pieces.{is_word_char}
use Rattle.tx_tokens.proofs.WordLemmas.{run_boundary, run_front, run_rest, word_char_low}
use Rattle.tx_tokens.proofs.word.word.Goals as goal

pub split_at-requires : goal.split_at-requires
split_at-requires c =
    let size : c.word_len.result ≡ prefix_len is_word_char c.args.text.now = c.word_len.ensures ∙ ap (prefix_len is_word_char) c.as_bytes.ensures.value in
    run_boundary is_word_char word_char_low c.args.text.now c.word_len.result c.utf8.text size

pub returns-clause-word : goal.returns-clause-word
returns-clause-word c =
    let size : c.word_len.result ≡ prefix_len is_word_char c.args.text.now = c.word_len.ensures ∙ ap (prefix_len is_word_char) c.as_bytes.ensures.value in
    c.in_ok-from_str.ensures ∙ run_front is_word_char word_char_low c.args.text.now c.word_len.result c.utf8.text size c.split_at.result.0.now c.split_at.ensures.front

pub returns-clause-rest : goal.returns-clause-rest
returns-clause-rest c =
    let size : c.word_len.result ≡ prefix_len is_word_char c.args.text.now = c.word_len.ensures ∙ ap (prefix_len is_word_char) c.as_bytes.ensures.value in
    run_rest is_word_char word_char_low c.args.text.now c.word_len.result c.utf8.text size c.split_at.result.1.now c.split_at.ensures.back
