use Rattle.std.proofs.Common.{◌≡◌, ap, codes, map, option_map, ◌∙◌}
use Rattle.serde_json.specs.Data.{Members, array, boolean, number, object, put, string, unsigned}
use Rattle.serde_json.specs.View.{items_of, members_view, view}
use Rattle.serde_json.specs.declared.value.Value.{Array}
use Rattle.serde_json.proofs.Views.{view-Array, view-Object}
use Rattle.wm_lines.specs.KeptExpressions.{expression_shown}
use Rattle.wm_lines.specs.Replies.{stdin_text, with_some}
use Rattle.wm_lines.proofs.ShownTriggers.{all_put, with_both}
use Rattle.wm_lines.proofs.reply.trigger_shown.Goals as goal

pub returns : goal.returns
returns c =
    let t = c.args.trigger.now in
    let append_files : view c.from-append_files.result ≡ boolean t.append_files = c.from-append_files.ensures ∙ ap (λ flag. boolean flag) c.append_files.ensures in
    let words : view (Array c.in_ok-word_list.field-0) ≡ array (items_of (map (λ word. string word) t.command)) =
    view-Array c.in_ok-word_list.field-0 ∙ ap array (c.in_ok-word_list.ensures ∙ ap (λ ws. items_of (map (λ word. string word) ws)) c.command.ensures) in
    let name : view c.in_ok-name.name ≡ string t.name = c.in_ok-name.ensures ∙ ap (λ text. string text) c.name.ensures in
    let stdin : view c.in_ok-stdin.stdin ≡ string (stdin_text t.stdin) = c.in_ok-stdin.ensures ∙ ap (λ text. string text) c.stdin_shown.ensures in
    let expression : option_map view c.in_ok-expression.expression ≡ option_map expression_shown t.expression = c.in_ok-expression.ensures in
    let count : option_map view c.file_count_of.result ≡ option_map (λ n. number (unsigned n)) t.max_files_stdin = c.file_count_of.ensures in
    view-Object c.put-4.new.map ∙
    ap object (c.in_ok-put-4.ensures.ok
    ∙ ap (λ (ms : Members). put (codes "stdin") (view c.in_ok-stdin.stdin) ms) (c.in_ok-put-3.ensures.ok
    ∙ ap (λ (ms : Members). put (codes "name") (view c.in_ok-name.name) ms) (c.in_ok-put_some-2.ensures
    ∙ ap (λ (ms : Members). with_some (codes "max_files_stdin") (option_map view c.file_count_of.result) ms) (c.in_ok-put_some.ensures
    ∙ ap (λ (ms : Members). with_some (codes "expression") (option_map view c.in_ok-expression.expression) ms) (c.in_ok-put-2.ensures.ok
    ∙ ap (λ (ms : Members). put (codes "command") (view (Array c.in_ok-word_list.field-0)) ms) (c.in_ok-put.ensures.ok
    ∙ ap (λ (ms : Members). put (codes "append_files") (view c.from-append_files.result) ms) (ap members_view c.new-members.ensures.empty))))))
    ∙ (λ i. put (codes "stdin") (stdin i) (put (codes "name") (name i) (with_both (expression i) (count i) (append_files i) (words i))))
    ∙ all_put t.expression t.max_files_stdin (boolean t.append_files) (array (items_of (map (λ word. string word) t.command))) (string t.name) (string (stdin_text t.stdin)))
