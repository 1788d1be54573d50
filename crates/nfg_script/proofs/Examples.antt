-- Worked rows, each computed from the definitions.
use Rattle.std.specs.Prelude.{◌≡◌, ℕ, true, false, List, [], ◌∷◌, ◌++◌, refl, codes, Ok, Err}
use Rattle.std.specs.List.{repeat}
use Rattle.std.specs.Str.{is_utf8, chars}
use Rattle.std.specs.Str.Lossy.{utf8_valid_len}
use Rattle.std.specs.Char.{encode_utf8}
use Rattle.nfg_decode.specs.declared.encoding.Encoding.TheVariants.{Utf16, Utf16Le, Latin1}
use Rattle.nfg_script.specs.declared.command.Command.{Command}
use Rattle.nfg_script.specs.declared.command.Command.TheVariants.{Load, Text, Cat, Sub, Rep, Find, Rfind, Eq, Cmp, Len, Show, Shape, Put}
use Rattle.nfg_script.specs.declared.error.Reason.TheVariants.{BadCommand, WordCount, BadName, NameTaken, UnknownName, BadNumber, BadEncoding, BadCodePoint}
use Rattle.nfg_script.specs.declared.error.ScriptError.TheVariants.{Malformed, Line}
use Rattle.nfg_script.specs.Script.{NumberedCommand}
use Rattle.nfg_script.specs.Words.{words_of, is_name, place_of, new_name, known_name, number_of, encoding_of, code_point_of, code_points_of}
use Rattle.nfg_script.specs.Line.{load_form, text_form, cat_form, sub_form, rep_form, search_form, two_names_form, one_name_form, put_form, new_and_known, two_known, two_numbers, form_of, read_words}
use Rattle.nfg_script.specs.Grammar.{lines_of, and_line, commands_from, parse}

-- Lines and words.

lines_with_an_end : lines_of (codes "ab" ++ 13 ∷ 10 ∷ 10 ∷ codes "c" ++ 10 ∷ []) ≡ codes "ab" ∷ [] ∷ codes "c" ∷ []
unfolding lines_of
lines_with_an_end = refl

lines_without_an_end : lines_of (codes "ab" ++ 10 ∷ codes "c" ++ 13 ∷ []) ≡ codes "ab" ∷ codes "c" ∷ []
unfolding lines_of
lines_without_an_end = refl

lines_of_nothing : lines_of [] ≡ []
unfolding lines_of
lines_of_nothing = refl

one_carriage_return_is_dropped : lines_of (97 ∷ 13 ∷ 13 ∷ []) ≡ (97 ∷ 13 ∷ []) ∷ []
unfolding lines_of
one_carriage_return_is_dropped = refl

words_between_blanks : words_of (9 ∷ 32 ∷ codes "len" ++ 9 ∷ 9 ∷ codes "a ") ≡ codes "len" ∷ codes "a" ∷ []
unfolding words_of
words_between_blanks = refl

no_words : words_of (32 ∷ 9 ∷ []) ≡ []
unfolding words_of
no_words = refl

-- Names: two are defined.

abbrev two_names : List (List ℕ)
two_names = codes "a" ∷ codes "long_Name_9" ∷ []

a_name_of_64 : is_name (repeat 64 (97 ∷ [])) ≡ true
unfolding is_name
a_name_of_64 = refl

a_name_of_65 : is_name (repeat 65 (97 ∷ [])) ≡ false
unfolding is_name
a_name_of_65 = refl

a_hyphen_is_in_no_name : new_name two_names (codes "b-c") ≡ Err BadName
unfolding new_name is_name
a_hyphen_is_in_no_name = refl

a_third_name : new_name two_names (codes "_") ≡ Ok 2
unfolding new_name is_name place_of
a_third_name = refl

a_taken_name : new_name two_names (codes "a") ≡ Err NameTaken
unfolding new_name is_name place_of
a_taken_name = refl

the_second_name : known_name two_names (codes "long_Name_9") ≡ Ok 1
unfolding known_name is_name place_of
the_second_name = refl

case_matters : known_name two_names (codes "A") ≡ Err UnknownName
unfolding known_name is_name place_of
case_matters = refl

no_ascii_name : known_name two_names (0xC3 ∷ 0xA9 ∷ []) ≡ Err BadName
unfolding known_name is_name
no_ascii_name = refl

-- Numbers.

leading_zeros : number_of (codes "0007") ≡ Ok 7
unfolding number_of
leading_zeros = refl

greatest_number : number_of (codes "18446744073709551615") ≡ Ok 18446744073709551615
unfolding number_of
greatest_number = refl

two_to_the_64 : number_of (codes "18446744073709551616") ≡ Err BadNumber
unfolding number_of
two_to_the_64 = refl

twenty_digits : number_of (codes "00000000000000000001") ≡ Ok 1
unfolding number_of
twenty_digits = refl

twenty_one_digits : number_of (codes "000000000000000000001") ≡ Err BadNumber
unfolding number_of
twenty_one_digits = refl

a_plus_is_no_digit : number_of (codes "+1") ≡ Err BadNumber
unfolding number_of
a_plus_is_no_digit = refl

a_minus_is_no_digit : number_of (codes "-1") ≡ Err BadNumber
unfolding number_of
a_minus_is_no_digit = refl

-- Encodings.

an_encoding : encoding_of (codes "utf16le") ≡ Ok Utf16Le
unfolding encoding_of
an_encoding = refl

no_capitals : encoding_of (codes "UTF8") ≡ Err BadEncoding
unfolding encoding_of
no_capitals = refl

-- Code points.

both_cases : code_points_of (codes "1f468" ∷ codes "00E9" ∷ []) ≡ Ok (0x1F468 ∷ 0xE9 ∷ [])
unfolding code_points_of code_point_of
both_cases = refl

the_last_code_point : code_point_of (codes "10FFFF") ≡ Ok 0x10FFFF
unfolding code_point_of
the_last_code_point = refl

past_the_last : code_point_of (codes "110000") ≡ Err BadCodePoint
unfolding code_point_of
past_the_last = refl

a_surrogate : code_point_of (codes "D800") ≡ Err BadCodePoint
unfolding code_point_of
a_surrogate = refl

seven_digits : code_point_of (codes "0000061") ≡ Err BadCodePoint
unfolding code_point_of
seven_digits = refl

no_hexadecimal_digit : code_point_of (codes "6G") ≡ Err BadCodePoint
unfolding code_point_of
no_hexadecimal_digit = refl

the_first_bad_one : code_points_of (codes "61" ∷ codes "x" ∷ []) ≡ Err BadCodePoint
unfolding code_points_of code_point_of
the_first_bad_one = refl

-- Scripts.

abbrev lines : List (List ℕ) → List ℕ
lines [] = []
lines (line ∷ rest) = line ++ 10 ∷ lines rest

-- a command that has neither path nor code points
abbrev numbered : (line : ℕ) → Command → NumberedCommand
numbered line command = record { line = line; command = command; path = []; codes = [] }

an_empty_script : parse ([]) ≡ Ok []
unfolding parse is_utf8 chars encode_utf8 lines_of words_of commands_from and_line read_words form_of load_form text_form cat_form sub_form rep_form search_form two_names_form one_name_form put_form new_and_known two_known two_numbers new_name known_name is_name place_of number_of encoding_of code_points_of code_point_of
an_empty_script = refl

every_command : parse (lines (codes "load a utf16 ../f.txt" ∷ codes "text b 71 323" ∷ codes "sub c b 0 18446744073709551615" ∷ codes "len c" ∷ codes "show a" ∷ codes "shape b" ∷ codes "put c latin1" ∷ [])) ≡ Ok (
    record { line = 1; command = Load 0 Utf16; path = codes "../f.txt"; codes = [] }
    ∷ record { line = 2; command = Text 1; path = []; codes = 0x71 ∷ 0x323 ∷ [] }
    ∷ numbered 3 (Sub 2 1 0 18446744073709551615) ∷ numbered 4 (Len 2) ∷ numbered 5 (Show 0)
    ∷ numbered 6 (Shape 1) ∷ numbered 7 (Put 2 Latin1) ∷ [])
unfolding parse is_utf8 chars encode_utf8 lines_of words_of commands_from and_line read_words form_of load_form text_form cat_form sub_form rep_form search_form two_names_form one_name_form put_form new_and_known two_known two_numbers new_name known_name is_name place_of number_of encoding_of code_points_of code_point_of
every_command = refl

every_command_of_two : parse (lines (codes "text a" ∷ codes "cat b a a" ∷ codes "rep c b 3" ∷ codes "find c a 1" ∷ codes "rfind a c 2" ∷ codes "eq b c" ∷ codes "cmp c b" ∷ [])) ≡ Ok (
    numbered 1 (Text 0) ∷ numbered 2 (Cat 1 0 0) ∷ numbered 3 (Rep 2 1 3) ∷ numbered 4 (Find 2 0 1)
    ∷ numbered 5 (Rfind 0 2 2) ∷ numbered 6 (Eq 1 2) ∷ numbered 7 (Cmp 2 1) ∷ [])
unfolding parse is_utf8 chars encode_utf8 lines_of words_of commands_from and_line read_words form_of load_form text_form cat_form sub_form rep_form search_form two_names_form one_name_form put_form new_and_known two_known two_numbers new_name known_name is_name place_of number_of encoding_of code_points_of code_point_of
every_command_of_two = refl

skipped_lines_count : parse (lines (codes "# a comment" ∷ [] ∷ (32 ∷ 9 ∷ codes "#x y") ∷ (9 ∷ codes "text" ++ 9 ∷ codes "a" ++ 13 ∷ []) ∷ []) ++ codes "len a") ≡ Ok (numbered 4 (Text 0) ∷ numbered 5 (Len 0) ∷ [])
unfolding parse is_utf8 chars encode_utf8 lines_of words_of commands_from and_line read_words form_of load_form text_form cat_form sub_form rep_form search_form two_names_form one_name_form put_form new_and_known two_known two_numbers new_name known_name is_name place_of number_of encoding_of code_points_of code_point_of
skipped_lines_count = refl

a_text_without_code_points : parse (lines (codes "text a" ∷ [])) ≡ Ok (numbered 1 (Text 0) ∷ [])
unfolding parse is_utf8 chars encode_utf8 lines_of words_of commands_from and_line read_words form_of load_form text_form cat_form sub_form rep_form search_form two_names_form one_name_form put_form new_and_known two_known two_numbers new_name known_name is_name place_of number_of encoding_of code_points_of code_point_of
a_text_without_code_points = refl

an_unknown_name : parse (lines (codes "len x" ∷ [])) ≡ Err (Line 1 UnknownName)
unfolding parse is_utf8 chars encode_utf8 lines_of words_of commands_from and_line read_words form_of load_form text_form cat_form sub_form rep_form search_form two_names_form one_name_form put_form new_and_known two_known two_numbers new_name known_name is_name place_of number_of encoding_of code_points_of code_point_of
an_unknown_name = refl

a_surrogate_in_a_text : parse (lines (codes "text a D800" ∷ [])) ≡ Err (Line 1 BadCodePoint)
unfolding parse is_utf8 chars encode_utf8 lines_of words_of commands_from and_line read_words form_of load_form text_form cat_form sub_form rep_form search_form two_names_form one_name_form put_form new_and_known two_known two_numbers new_name known_name is_name place_of number_of encoding_of code_points_of code_point_of
a_surrogate_in_a_text = refl

an_unknown_command : parse (lines (codes "frob" ∷ [])) ≡ Err (Line 1 BadCommand)
unfolding parse is_utf8 chars encode_utf8 lines_of words_of commands_from and_line read_words form_of load_form text_form cat_form sub_form rep_form search_form two_names_form one_name_form put_form new_and_known two_known two_numbers new_name known_name is_name place_of number_of encoding_of code_points_of code_point_of
an_unknown_command = refl

a_negative_number : parse (lines (codes "text a 61" ∷ codes "sub b a -1 0" ∷ [])) ≡ Err (Line 2 BadNumber)
unfolding parse is_utf8 chars encode_utf8 lines_of words_of commands_from and_line read_words form_of load_form text_form cat_form sub_form rep_form search_form two_names_form one_name_form put_form new_and_known two_known two_numbers new_name known_name is_name place_of number_of encoding_of code_points_of code_point_of
a_negative_number = refl

a_name_twice : parse (lines (codes "text a 61" ∷ codes "text a 62" ∷ [])) ≡ Err (Line 2 NameTaken)
unfolding parse is_utf8 chars encode_utf8 lines_of words_of commands_from and_line read_words form_of load_form text_form cat_form sub_form rep_form search_form two_names_form one_name_form put_form new_and_known two_known two_numbers new_name known_name is_name place_of number_of encoding_of code_points_of code_point_of
a_name_twice = refl

a_name_before_its_line : parse (lines (codes "sub a a 0 1" ∷ [])) ≡ Err (Line 1 UnknownName)
unfolding parse is_utf8 chars encode_utf8 lines_of words_of commands_from and_line read_words form_of load_form text_form cat_form sub_form rep_form search_form two_names_form one_name_form put_form new_and_known two_known two_numbers new_name known_name is_name place_of number_of encoding_of code_points_of code_point_of
a_name_before_its_line = refl

an_unknown_second_name : parse (lines (codes "text a" ∷ codes "cat b a b" ∷ [])) ≡ Err (Line 2 UnknownName)
unfolding parse is_utf8 chars encode_utf8 lines_of words_of commands_from and_line read_words form_of load_form text_form cat_form sub_form rep_form search_form two_names_form one_name_form put_form new_and_known two_known two_numbers new_name known_name is_name place_of number_of encoding_of code_points_of code_point_of
an_unknown_second_name = refl

a_name_before_a_number : parse (lines (codes "text a" ∷ codes "find a b -" ∷ [])) ≡ Err (Line 2 UnknownName)
unfolding parse is_utf8 chars encode_utf8 lines_of words_of commands_from and_line read_words form_of load_form text_form cat_form sub_form rep_form search_form two_names_form one_name_form put_form new_and_known two_known two_numbers new_name known_name is_name place_of number_of encoding_of code_points_of code_point_of
a_name_before_a_number = refl

a_search_from_no_number : parse (lines (codes "text a" ∷ codes "rfind a a -" ∷ [])) ≡ Err (Line 2 BadNumber)
unfolding parse is_utf8 chars encode_utf8 lines_of words_of commands_from and_line read_words form_of load_form text_form cat_form sub_form rep_form search_form two_names_form one_name_form put_form new_and_known two_known two_numbers new_name known_name is_name place_of number_of encoding_of code_points_of code_point_of
a_search_from_no_number = refl

a_third_name_for_eq : parse (lines (codes "text a" ∷ codes "eq a a a" ∷ [])) ≡ Err (Line 2 WordCount)
unfolding parse is_utf8 chars encode_utf8 lines_of words_of commands_from and_line read_words form_of load_form text_form cat_form sub_form rep_form search_form two_names_form one_name_form put_form new_and_known two_known two_numbers new_name known_name is_name place_of number_of encoding_of code_points_of code_point_of
a_third_name_for_eq = refl

the_count_comes_before_the_words : parse (lines (codes "sub - + -" ∷ [])) ≡ Err (Line 1 WordCount)
unfolding parse is_utf8 chars encode_utf8 lines_of words_of commands_from and_line read_words form_of load_form text_form cat_form sub_form rep_form search_form two_names_form one_name_form put_form new_and_known two_known two_numbers new_name known_name is_name place_of number_of encoding_of code_points_of code_point_of
the_count_comes_before_the_words = refl

words_from_left_to_right : parse (lines (codes "text a" ∷ codes "sub b a x y" ∷ [])) ≡ Err (Line 2 BadNumber)
unfolding parse is_utf8 chars encode_utf8 lines_of words_of commands_from and_line read_words form_of load_form text_form cat_form sub_form rep_form search_form two_names_form one_name_form put_form new_and_known two_known two_numbers new_name known_name is_name place_of number_of encoding_of code_points_of code_point_of
words_from_left_to_right = refl

the_first_bad_line : parse (lines (codes "# one" ∷ codes "put a utf9" ∷ codes "frob" ∷ [])) ≡ Err (Line 2 UnknownName)
unfolding parse is_utf8 chars encode_utf8 lines_of words_of commands_from and_line read_words form_of load_form text_form cat_form sub_form rep_form search_form two_names_form one_name_form put_form new_and_known two_known two_numbers new_name known_name is_name place_of number_of encoding_of code_points_of code_point_of
the_first_bad_line = refl

an_unknown_encoding : parse (lines (codes "text a" ∷ codes "put a utf9" ∷ [])) ≡ Err (Line 2 BadEncoding)
unfolding parse is_utf8 chars encode_utf8 lines_of words_of commands_from and_line read_words form_of load_form text_form cat_form sub_form rep_form search_form two_names_form one_name_form put_form new_and_known two_known two_numbers new_name known_name is_name place_of number_of encoding_of code_points_of code_point_of
an_unknown_encoding = refl

bytes_that_are_no_text : parse (0x61 ∷ 0xFF ∷ []) ≡ Err (Malformed 1)
unfolding parse is_utf8 chars encode_utf8 utf8_valid_len lines_of
bytes_that_are_no_text = refl
