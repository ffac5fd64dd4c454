-- The words of the classes, and their order (the exception hierarchy of Python, with two classes of the project's own).
use Rattle.std.specs.Prelude.{ℕ, Bool, true, false, List, [], ◌∷◌, Option, Some, None, codes}
use Rattle.std.specs.List.{list_any}
use Rattle.tx_base.specs.declared.class.Class.{Class}
use Rattle.tx_base.specs.declared.class.Class.TheVariants.{TypeError, ValueError, KeyError, IndexError, ZeroDivisionError, OverflowError, AttributeError, UnboundLocalError, UnicodeDecodeError, ProfileError, RecordError, ArithmeticError, LookupError, NameError, Exception}

abbrev pub name_of : Class → List ℕ
name_of TypeError = codes "TypeError"
name_of ValueError = codes "ValueError"
name_of KeyError = codes "KeyError"
name_of IndexError = codes "IndexError"
name_of ZeroDivisionError = codes "ZeroDivisionError"
name_of OverflowError = codes "OverflowError"
name_of AttributeError = codes "AttributeError"
name_of UnboundLocalError = codes "UnboundLocalError"
name_of UnicodeDecodeError = codes "UnicodeDecodeError"
name_of ProfileError = codes "ProfileError"
name_of RecordError = codes "RecordError"
name_of ArithmeticError = codes "ArithmeticError"
name_of LookupError = codes "LookupError"
name_of NameError = codes "NameError"
name_of Exception = codes "Exception"

-- the class directly above; nothing is above `Exception`
abbrev pub above : Class → Option Class
above OverflowError = Some ArithmeticError
above ZeroDivisionError = Some ArithmeticError
above IndexError = Some LookupError
above KeyError = Some LookupError
above UnboundLocalError = Some NameError
above UnicodeDecodeError = Some ValueError
above Exception = None
above _ = Some Exception

-- a class and all that are above it, from the nearest
abbrev pub lineage : Class → List Class
lineage OverflowError = OverflowError ∷ ArithmeticError ∷ Exception ∷ []
lineage ZeroDivisionError = ZeroDivisionError ∷ ArithmeticError ∷ Exception ∷ []
lineage IndexError = IndexError ∷ LookupError ∷ Exception ∷ []
lineage KeyError = KeyError ∷ LookupError ∷ Exception ∷ []
lineage UnboundLocalError = UnboundLocalError ∷ NameError ∷ Exception ∷ []
lineage UnicodeDecodeError = UnicodeDecodeError ∷ ValueError ∷ Exception ∷ []
lineage Exception = Exception ∷ []
lineage class = class ∷ Exception ∷ []

abbrev pub same_class : Class → Class → Bool
same_class TypeError TypeError = true
same_class ValueError ValueError = true
same_class KeyError KeyError = true
same_class IndexError IndexError = true
same_class ZeroDivisionError ZeroDivisionError = true
same_class OverflowError OverflowError = true
same_class AttributeError AttributeError = true
same_class UnboundLocalError UnboundLocalError = true
same_class UnicodeDecodeError UnicodeDecodeError = true
same_class ProfileError ProfileError = true
same_class RecordError RecordError = true
same_class ArithmeticError ArithmeticError = true
same_class LookupError LookupError = true
same_class NameError NameError = true
same_class Exception Exception = true
same_class _ _ = false

-- a class catches itself and all below it
abbrev pub catches : Class → Class → Bool
catches handler raised = list_any (same_class handler) (lineage raised)
