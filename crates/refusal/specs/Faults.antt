-- The number, layer and place of each refusal, and how it is shown.
use Rattle.std.specs.Prelude.{ℕ, List, ◌++◌, codes, decimal}
use Rattle.refusal.specs.declared.fault.Fault.{Fault}
use Rattle.refusal.specs.declared.fault.Fault.TheVariants.{OutOfRange, IllFormed, Outgrown, NotTaken, Unlawful, BadToken, RepeatedWhitespace, OutOfTurn, NoRoom, BlockOpen, TooDeep, WrongSlip, Unclosed, Finished, TooLong, Operator}
use Rattle.refusal.specs.declared.fault.Layer.{Layer}
use Rattle.refusal.specs.declared.fault.Layer.TheVariants.{Source, Reader, Sink, Writer, Program}

abbrev pub number_of : Fault → ℕ
number_of (OutOfRange p) = 1
number_of (IllFormed p) = 2
number_of (Outgrown p) = 3
number_of (NotTaken p) = 4
number_of (Unlawful p) = 5
number_of (BadToken p) = 6
number_of (RepeatedWhitespace p) = 7
number_of (OutOfTurn p) = 8
number_of (NoRoom p) = 9
number_of (BlockOpen p) = 10
number_of (TooDeep p) = 11
number_of (WrongSlip p) = 12
number_of (Unclosed p) = 13
number_of (Finished p) = 14
number_of (TooLong p) = 15
number_of (Operator n p) = n

abbrev pub layer_of : Fault → Layer
layer_of (OutOfRange p) = Source
layer_of (IllFormed p) = Source
layer_of (Outgrown p) = Reader
layer_of (NotTaken p) = Sink
layer_of (Unlawful p) = Writer
layer_of (BadToken p) = Writer
layer_of (RepeatedWhitespace p) = Writer
layer_of (OutOfTurn p) = Writer
layer_of (NoRoom p) = Writer
layer_of (BlockOpen p) = Writer
layer_of (TooDeep p) = Writer
layer_of (WrongSlip p) = Writer
layer_of (Unclosed p) = Writer
layer_of (Finished p) = Writer
layer_of (TooLong p) = Program
layer_of (Operator n p) = Source

abbrev pub place_of : Fault → ℕ
place_of (OutOfRange p) = p
place_of (IllFormed p) = p
place_of (Outgrown p) = p
place_of (NotTaken p) = p
place_of (Unlawful p) = p
place_of (BadToken p) = p
place_of (RepeatedWhitespace p) = p
place_of (OutOfTurn p) = p
place_of (NoRoom p) = p
place_of (BlockOpen p) = p
place_of (TooDeep p) = p
place_of (WrongSlip p) = p
place_of (Unclosed p) = p
place_of (Finished p) = p
place_of (TooLong p) = p
place_of (Operator n p) = p

abbrev pub layer_name : Layer → List ℕ
layer_name Source = codes "source"
layer_name Reader = codes "reader"
layer_name Sink = codes "sink"
layer_name Writer = codes "writer"
layer_name Program = codes "program"

-- as in `fault 6 writer 4`
abbrev pub fault_shown : Fault → List ℕ
fault_shown f = codes "fault " ++ (decimal (number_of f) ++ (codes " " ++ (layer_name (layer_of f) ++ (codes " " ++ decimal (place_of f)))))
